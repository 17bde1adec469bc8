-- `cells::vertex::assign_ring` meets its contract. The loop's invariant: the darts before p have the number.
-- The measure is what is left of the ring. Assumes nothing.
use Prim.Native.Nat.{◌-◌}
use lib.ListN.{length}
use Rattle.model.specs.Cells.{cycle}
use Rattle.model.specs.Image.{column}
use Rattle.laws.proofs.Orbits.{path}
use Rattle.cells.specs.Places.{Assigned}
use Rattle.cells.proofs.Paths.{Going}
use Rattle.cells.proofs.vertex.assign_ring.Given as goal

abbrev pub invariant-loop-p : goal.invariant-loop-p
invariant-loop-p l =
    Going l.n (λ d. column l.block 1 (column l.block 2 d)) l.first (length (cycle (λ d. column l.block 1 (column l.block 2 d)) l.first)) l.steps l.p
    × Assigned l.number (path (λ d. column l.block 1 (column l.block 2 d)) l.steps l.first) l.initial.numbers l.numbers

abbrev pub decreases-loop-p : goal.decreases-loop-p
decreases-loop-p l =
    length (cycle (λ d. column l.block 1 (column l.block 2 d)) l.first) - l.steps
