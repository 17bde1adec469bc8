-- `rounds::deliver` meets its contract.
-- Assumes nothing.
use mathlib.Core.Path.{sym}
use lib.Seq.{length-take-le}
use Rattle.rounds.proofs.Cuts.{first_fits}
use Rattle.rounds.proofs.Delivering.{deliver_refused, deliver_finished, deliver_unfinished}
use native.Mathlib.Omega.{arith}
use Rattle.rounds.proofs.deliver.Goals as goal

pub slice_bounds-receive_at-end : goal.slice_bounds-receive_at-end
slice_bounds-receive_at-end c =
    let l = first_fits c.args.sent.now in
    sym (length-take-le c.first_message-first.result c.args.sent.now (omega (arith, c.first_message-first.ensures, l)))

pub slice_bounds-finish-count : goal.slice_bounds-finish-count
slice_bounds-finish-count c =
    let l = first_fits c.args.sent.now in
    omega (arith, c.first_message-first.ensures, l)

pub slice_bounds-finish-start : goal.slice_bounds-finish-start
slice_bounds-finish-start c =
    let l = first_fits c.args.sent.now in
    omega (arith, c.first_message-first.ensures, l)

pub returns-then-finish : goal.returns-then-finish
returns-then-finish c =
    let mesh = c.args.mesh.now in
    let from = c.args.from in
    let to = c.args.to in
    let serial = c.args.serial in
    let sent = c.args.sent.now in
    deliver_finished c.args.viewers mesh from to serial sent c.first_message-first.result c.first_message-first.ensures c.receive_at.result
    c.receive_at.ensures
    c.in-Ok.is c.finish.ensures c.if-finish.true

pub returns-in-Err : goal.returns-in-Err
returns-in-Err c =
    let mesh = c.args.mesh.now in
    let from = c.args.from in
    let to = c.args.to in
    let serial = c.args.serial in
    let sent = c.args.sent.now in
    deliver_refused c.args.viewers mesh from to serial sent c.first_message-first.result c.first_message-first.ensures c.receive_at.result
    c.receive_at.ensures _ c.in-Err.is

pub returns-else-finish : goal.returns-else-finish
returns-else-finish c =
    let mesh = c.args.mesh.now in
    let from = c.args.from in
    let to = c.args.to in
    let serial = c.args.serial in
    let sent = c.args.sent.now in
    deliver_unfinished c.args.viewers mesh from to serial sent c.first_message-first.result c.first_message-first.ensures c.receive_at.result
    c.receive_at.ensures
    c.in-Ok.is c.finish.ensures c.if-finish.false
