-- `text::blank` meets its contract. The loop's invariant: whether the first i bytes are blanks.
-- Assumes nothing.
use Prim.Native.Nat.{◌≤◌}
use Rattle.text.proofs.Readings.{Blanking}
use Rattle.text.proofs.blank.Given as goal

abbrev pub invariant-loop-i : goal.invariant-loop-i
invariant-loop-i l =
    (l.i ≤ l.n) × Blanking l.s l.at l.all l.i
