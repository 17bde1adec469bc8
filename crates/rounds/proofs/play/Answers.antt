-- `rounds::play` meets its contract.
-- Assumes nothing.
use mathlib.Core.Path.{sym}
use lib.Seq.{length-take-le}
use Rattle.rounds.proofs.Delivering.{nobody_here, refused_by_send, was_played, within_outbox}
use Rattle.rounds.proofs.play.Goals as goal

pub returns-then-mesh-from : goal.returns-then-mesh-from
returns-then-mesh-from c =
    nobody_here c.args.viewers c.args.mesh.now c.args.from c.args.to c.args.serial c.args.outbox.now c.if-mesh-from.true

pub slice_bounds-deliver-end : goal.slice_bounds-deliver-end
slice_bounds-deliver-end c =
    within_outbox _ _ c.args.to c.args.serial c.args.outbox.now c.send_part.ensures c.in-Ok.is

pub slice_bounds-deliver-end-in-Ok : goal.slice_bounds-deliver-end-in-Ok
slice_bounds-deliver-end-in-Ok c =
    sym (length-take-le _ _ (within_outbox _ _ c.args.to c.args.serial c.args.outbox.now c.send_part.ensures c.in-Ok.is))

pub returns-in-Err : goal.returns-in-Err
returns-in-Err c =
    let mesh = c.args.mesh.now in
    let from = c.args.from in
    let to = c.args.to in
    let serial = c.args.serial in
    let outbox = c.args.outbox.now in
    refused_by_send c.args.viewers mesh from to serial outbox c.if-mesh-from.false _ c.send_part.ensures c.in-Err.is

pub returns-in-Ok : goal.returns-in-Ok
returns-in-Ok c =
    let mesh = c.args.mesh.now in
    let from = c.args.from in
    let to = c.args.to in
    let serial = c.args.serial in
    let outbox = c.args.outbox.now in
    was_played c.args.viewers mesh from to serial outbox c.if-mesh-from.false _ _ c.send_part.ensures c.in-Ok.is c.deliver.ensures
