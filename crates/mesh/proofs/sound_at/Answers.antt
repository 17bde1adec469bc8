-- `mesh::sound_at` meets its contract. Assumes nothing.
use mathlib.Core.Path.{◌∙◌, ap}
use lib.ListN.{length}
use Rattle.mesh.specs.Parts.{sound_memory}
use Rattle.mesh.proofs.Gathers.{part_length}
use Rattle.mesh.proofs.sound_at.Goals as goal

pub sound_among-requires : goal.sound_among-requires
sound_among-requires c =
    ap length c.part_of.ensures ∙ part_length c.args.mesh.now c.args.i c.requires

pub returns : goal.returns
returns c =
    c.sound_among.ensures ∙ ap (sound_memory c.args.viewers) c.part_of.ensures
