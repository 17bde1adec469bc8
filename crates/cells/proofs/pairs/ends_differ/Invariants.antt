-- `cells::pairs::ends_differ` meets its contract. The loop's invariant: the ends before p's differ, and have the colour.
-- The measure is what is left of the ring. Assumes nothing.
use Prim.Native.Nat.{◌-◌}
use lib.ListN.{length}
use Rattle.model.specs.Cells.{cycle}
use Rattle.model.specs.Image.{column}
use Rattle.cells.proofs.PairLaws.{Ending}
use Rattle.cells.proofs.pairs.ends_differ.Given as goal

abbrev pub invariant-loop-n : goal.invariant-loop-n
invariant-loop-n l =
    Ending l.n (column l.block 1) (λ d. column l.block 1 (column l.block 2 d)) l.numbers (length l.initial.colours) l.first l.a
    (length (cycle (λ d. column l.block 1 (column l.block 2 d)) l.first)) l.steps l.p l.colours

abbrev pub decreases-loop-n : goal.decreases-loop-n
decreases-loop-n l =
    length (cycle (λ d. column l.block 1 (column l.block 2 d)) l.first) - l.steps
