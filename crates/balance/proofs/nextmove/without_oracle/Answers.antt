-- `balance::nextmove::without_oracle` meets its contract. Assumes nothing.
use Rattle.balance.proofs.Turns.{mesh_no, mesh_yes, other_mesh, other_number, balanced}
use Rattle.balance.proofs.nextmove.without_oracle.Goals as goal

pub returns-in-Err : goal.returns-in-Err
returns-in-Err c =
    let viewers = c.args.viewers in
    let mesh = c.args.mesh.now in
    let scratch = c.args.scratch.now in
    balanced c.refused.ensures.0 c.refused.ensures.1
    (other_mesh viewers mesh scratch (mesh_no viewers mesh scratch c.in-Err.is c.mesh_asked.ensures.0) c.mesh_asked.ensures.1)

pub returns-in-Ok : goal.returns-in-Ok
returns-in-Ok c =
    let viewers = c.args.viewers in
    let mesh = c.args.mesh.now in
    let scratch = c.args.scratch.now in
    balanced c.refused-in-Ok.ensures.0 c.refused-in-Ok.ensures.1
    (other_number viewers mesh scratch (mesh_yes viewers mesh scratch c.in-Ok.is c.mesh_asked.ensures.0) c.mesh_asked.ensures.1)
