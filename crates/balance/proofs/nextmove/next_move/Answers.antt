-- `balance::nextmove::next_move` meets its contract: each answer is that of the first question that is answered no. Assumes nothing.
use Rattle.answers.proofs.Questions.{said_no, said_yes}
use Rattle.balance.proofs.Door.{parts_passed}
use Rattle.oracle.specs.Oracle.{oracle_of}
use Rattle.balance.proofs.Turns.{mesh_no, mesh_yes, refused_mesh, refused_oracle, gives_move, balanced, not_refused}
use mathlib.Core.Path.{refl}
use Rattle.balance.proofs.nextmove.next_move.Goals as goal

pub returns-then-not-oracle_right : goal.returns-then-not-oracle_right
returns-then-not-oracle_right c =
    let viewers = c.args.viewers in
    let mesh = c.args.mesh.now in
    let scratch = c.args.scratch.now in
    let o = c.args.o in
    balanced c.refused-then-not-oracle_right.ensures.0 c.refused-then-not-oracle_right.ensures.1
    (refused_oracle viewers mesh scratch (oracle_of o) (mesh_yes viewers mesh scratch c.in-Ok.is c.mesh_asked.ensures.0)
    (said_no c.oracle_right.ensures c.if-not-oracle_right.true) c.mesh_asked.ensures.1)

pub next_of-requires : goal.next_of-requires
next_of-requires c =
    let viewers = c.args.viewers in
    let mesh = c.args.mesh.now in
    let scratch = c.args.scratch.now in
    parts_passed viewers mesh scratch (mesh_yes viewers mesh scratch c.in-Ok.is c.mesh_asked.ensures.0)

pub returns-in-Err : goal.returns-in-Err
returns-in-Err c =
    let viewers = c.args.viewers in
    let mesh = c.args.mesh.now in
    let scratch = c.args.scratch.now in
    let o = c.args.o in
    balanced c.refused.ensures.0 c.refused.ensures.1
    (refused_mesh viewers mesh scratch (oracle_of o) (mesh_no viewers mesh scratch c.in-Err.is c.mesh_asked.ensures.0) c.mesh_asked.ensures.1)

pub returns-else-not-oracle_right : goal.returns-else-not-oracle_right
returns-else-not-oracle_right c =
    let viewers = c.args.viewers in
    let mesh = c.args.mesh.now in
    let scratch = c.args.scratch.now in
    let o = c.args.o in
    balanced refl (not_refused c.next_of.result c.next_of.ensures)
    (gives_move viewers mesh scratch (oracle_of o) (mesh_yes viewers mesh scratch c.in-Ok.is c.mesh_asked.ensures.0)
    (said_yes c.oracle_right.ensures c.if-not-oracle_right.false) c.next_of.ensures c.mesh_asked.ensures.1)
