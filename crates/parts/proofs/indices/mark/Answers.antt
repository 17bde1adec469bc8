use Rattle.parts.proofs.IndexLaws.{marking_none, marking_more, marking_end}
use native.Mathlib.Omega.{arith}
use Rattle.parts.proofs.indices.mark.Goals as goal

pub loop-e-init : goal.loop-e-init
loop-e-init c =
    (marking_none _ _, omega arith)

pub bounds-marks-at : goal.bounds-marks-at
bounds-marks-at c =
    omega (arith, c.loop-e.invariant.0.size, c.requires.1 c.loop-e.e (omega arith), c.entry_index-i.ensures)

pub loop-e-preserved : goal.loop-e-preserved
loop-e-preserved c = (
  marking_more c.loop-e.invariant.0 c.entry_index-i.ensures (omega (arith, c.entry_index-i.ensures, c.requires.1 c.loop-e.e (omega arith))),
  omega arith,
)

pub shape_of-marks : goal.shape_of-marks
shape_of-marks c =
    c.loop-e.invariant.0.size

pub returns : goal.returns
returns c =
    marking_end c.loop-e.invariant.0 c.loop-e.invariant.1 (omega arith) (omega arith)
