-- `mesh::part_of` meets its contract. Assumes nothing.
use mathlib.Core.Path.{refl}
use Rattle.mesh.proofs.Parts.{part_is}
use Rattle.mesh.proofs.part_of.Goals as goal

pub returns : goal.returns
returns c =
    part_is c.args.mesh.now c.args.i _ refl
