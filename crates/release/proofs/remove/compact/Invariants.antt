-- `release::remove::compact` meets its contract. The loop's invariant: the unmarked records below i stand in front.
-- The measure is what is left of the places. Assumes nothing.
use Prim.Native.Nat.{◌≤◌}
use Rattle.release.specs.LetGo.{rank, moved_words}
use Rattle.release.specs.Asks.{DartsMoved}
use Rattle.release.proofs.remove.compact.Given as goal

abbrev pub invariant-loop-i : goal.invariant-loop-i
invariant-loop-i l =
    (l.i ≤ l.n) × DartsMoved (moved_words (rank l.marks) l.initial.block) l.initial.block l.marks l.i l.block l.w
