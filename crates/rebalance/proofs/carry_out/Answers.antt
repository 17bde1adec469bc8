-- `rebalance::carry_out` meets its contract. Assumes nothing.
use mathlib.Core.Path.{refl}
use Rattle.rebalance.proofs.Turns.{carried}
use Rattle.rebalance.proofs.carry_out.Goals as goal

pub returns-in-Finished : goal.returns-in-Finished
returns-in-Finished c =
    let mesh = c.args.mesh.now in
    let outbox = c.args.outbox.now in
    let donor = c.args.donor in
    let recipient = c.args.recipient in
    let serial = c.args.serial in
    carried c.args.viewers mesh outbox donor recipient serial _ c.in-Finished.is refl c.play.ensures

pub returns-in-Unfinished : goal.returns-in-Unfinished
returns-in-Unfinished c =
    let mesh = c.args.mesh.now in
    let outbox = c.args.outbox.now in
    let donor = c.args.donor in
    let recipient = c.args.recipient in
    let serial = c.args.serial in
    carried c.args.viewers mesh outbox donor recipient serial _ c.in-Unfinished.is refl c.play.ensures

pub returns-in-Refused : goal.returns-in-Refused
returns-in-Refused c =
    let mesh = c.args.mesh.now in
    let outbox = c.args.outbox.now in
    let donor = c.args.donor in
    let recipient = c.args.recipient in
    let serial = c.args.serial in
    carried c.args.viewers mesh outbox donor recipient serial _ c.in-Refused.is refl c.play.ensures
