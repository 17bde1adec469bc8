-- `mesh::mesh_lent` meets its contract.
-- Assumes nothing.
use Rattle.mesh.proofs.Parts.{not_whole, not_entries, lent_zeros}
use Rattle.mesh.proofs.mesh_lent.Goals as goal

pub returns-then-mesh : goal.returns-then-mesh
returns-then-mesh c =
    not_whole c.args.mesh.now c.args.scratch.now c.if-mesh.true

pub returns-then-scratch-ne-SCRATCH : goal.returns-then-scratch-ne-SCRATCH
returns-then-scratch-ne-SCRATCH c =
    not_entries c.args.mesh.now c.args.scratch.now c.if-mesh.false c.if-scratch-ne-SCRATCH.true

pub returns : goal.returns
returns c =
    lent_zeros c.args.mesh.now c.args.scratch.now c.if-mesh.false c.if-scratch-ne-SCRATCH.false c.zeros.ensures
