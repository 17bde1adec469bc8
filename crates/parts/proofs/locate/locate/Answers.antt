use mathlib.Core.Path.{refl, ◌∙◌}
use Rattle.parts.proofs.Locating.{located_none, located_more, located_all}
use native.Mathlib.Omega.{arith}
use Rattle.parts.proofs.locate.locate.Goals as goal

pub loop-p-init : goal.loop-p-init
loop-p-init c =
    (located_none _ _ _ c.requires.5, omega arith, refl)

pub note-requires : goal.note-requires
note-requires c = (
  omega (arith, c.requires.0),
  c.requires.2,
  c.requires.3,
  omega (arith, c.loop-p.invariant.2, c.requires.4),
  c.requires.6.ascends,
  c.requires.6.index_below,
)

pub loop-p-preserved : goal.loop-p-preserved
loop-p-preserved c =
    (located_more c.requires.6 c.loop-p.invariant.0 c.note.ensures, omega arith, c.note.ensures.size ∙ c.loop-p.invariant.2)

pub shape_of-places : goal.shape_of-places
shape_of-places c =
    c.loop-p.invariant.2

pub returns : goal.returns
returns c =
    located_all c.loop-p.invariant.0 c.loop-p.invariant.1 (omega arith)
