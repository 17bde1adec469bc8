-- `cells::vertex::ring_step` meets its contract. Assumes nothing.
use mathlib.Core.Path.{ap, ◌∙◌}
use Rattle.model.specs.Image.{column}
use native.Mathlib.Omega.{arith}
use Rattle.cells.proofs.vertex.ring_step.Goals as goal

pub field-r-requires : goal.field-r-requires
field-r-requires c =
    (omega (arith, c.field-q.ensures, c.requires.0.opposite_within _ c.requires.1, c.requires.0.size), omega arith)

pub returns : goal.returns
returns c =
    c.field-r.ensures ∙ ap (column c.args.block.now 1) c.field-q.ensures
