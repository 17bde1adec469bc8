-- `rebalance::step` meets its contract. Assumes nothing.
use Rattle.oracle.specs.Oracle.{oracle_of}
use Rattle.rebalance.proofs.Turns.{stays, answered}
use Rattle.rebalance.proofs.step.Goals as goal

pub returns-in-Level : goal.returns-in-Level
returns-in-Level c =
    let mesh = c.args.mesh.now in
    let o = c.args.o in
    let scratch = c.args.scratch.now in
    let outbox = c.args.outbox.now in
    answered c.args.viewers mesh (oracle_of o) scratch outbox c.in-Level.is c.next_move-b.ensures (stays c.args.viewers mesh outbox _)

pub returns-in-Blocked : goal.returns-in-Blocked
returns-in-Blocked c =
    let mesh = c.args.mesh.now in
    let o = c.args.o in
    let scratch = c.args.scratch.now in
    let outbox = c.args.outbox.now in
    answered c.args.viewers mesh (oracle_of o) scratch outbox c.in-Blocked.is c.next_move-b.ensures (stays c.args.viewers mesh outbox _)

pub returns-in-Move : goal.returns-in-Move
returns-in-Move c =
    let mesh = c.args.mesh.now in
    let o = c.args.o in
    let scratch = c.args.scratch.now in
    let outbox = c.args.outbox.now in
    answered c.args.viewers mesh (oracle_of o) scratch outbox c.in-Move.is c.next_move-b.ensures c.carry_out.ensures

pub returns-in-Refused : goal.returns-in-Refused
returns-in-Refused c =
    let mesh = c.args.mesh.now in
    let o = c.args.o in
    let scratch = c.args.scratch.now in
    let outbox = c.args.outbox.now in
    answered c.args.viewers mesh (oracle_of o) scratch outbox c.in-Refused.is c.next_move-b.ensures (stays c.args.viewers mesh outbox _)
