-- `checkmesh::check_mesh` meets its contract.
-- Assumes nothing.
use Rattle.checkmesh.proofs.Chain.{gives_mesh}
use Rattle.checkmesh.proofs.check_mesh.Goals as goal

pub returns : goal.returns
returns c =
    gives_mesh c.args.viewers c.args.mesh.now c.args.scratch.now c.mesh_asked.ensures.0 c.mesh_asked.ensures.1
