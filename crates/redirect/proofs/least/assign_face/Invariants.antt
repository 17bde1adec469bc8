-- `redirect::least::assign_face` meets its contract. The loop's invariant: the darts before p have the number.
-- The measure is what is left of the face. Assumes nothing.
use Prim.Native.Nat.{◌-◌}
use lib.ListN.{length}
use Rattle.model.specs.Cells.{cycle}
use Rattle.model.specs.Image.{column}
use Rattle.laws.proofs.Orbits.{path}
use Rattle.cells.specs.Places.{Assigned}
use Rattle.cells.proofs.Paths.{Going}
use Rattle.redirect.proofs.least.assign_face.Given as goal

abbrev pub invariant-loop-p : goal.invariant-loop-p
invariant-loop-p l =
    Going l.n (column l.block 1) l.first (length (cycle (column l.block 1) l.first)) l.steps l.p × Assigned l.number
    (path (column l.block 1) l.steps l.first) l.initial.table l.table

abbrev pub decreases-loop-p : goal.decreases-loop-p
decreases-loop-p l =
    length (cycle (column l.block 1) l.first) - l.steps
