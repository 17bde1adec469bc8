-- `mesh::makers::made_part` meets its contract. Assumes nothing.
use mathlib.Core.Path.{ap, ◌∙◌}
use Rattle.mesh.specs.Parts.{made_block}
use Rattle.mesh.proofs.Gathers.{part_small}
use Rattle.mesh.proofs.makers.made_part.Goals as goal

pub made_darts-requires : goal.made_darts-requires
made_darts-requires c =
    part_small c.args.mesh.now c.args.i c.part_of.ensures c.requires.0 c.requires.1

pub returns : goal.returns
returns c =
    c.made_darts.ensures ∙ ap (made_block c.args.mesh.now) c.part_of.ensures
