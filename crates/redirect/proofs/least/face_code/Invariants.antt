-- `redirect::least::face_code` meets its contract. The loop's invariant: `least` is that of the darts before p.
-- The measure is what is left of the face. Assumes nothing.
use Prim.Native.Nat.{◌-◌}
use lib.ListN.{length}
use Rattle.model.specs.Cells.{cycle}
use Rattle.model.specs.Image.{column}
use Rattle.cells.proofs.Paths.{Going}
use Rattle.redirect.proofs.Lows.{Lowest}
use Rattle.redirect.proofs.least.face_code.Given as goal

abbrev pub invariant-loop-p : goal.invariant-loop-p
invariant-loop-p l =
    Going l.n (column l.block 1) l.first (length (cycle (column l.block 1) l.first)) l.steps l.p × Lowest (column l.block 1) (column l.block 4)
    l.first l.steps l.least

abbrev pub decreases-loop-p : goal.decreases-loop-p
decreases-loop-p l =
    length (cycle (column l.block 1) l.first) - l.steps
