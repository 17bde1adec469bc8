-- `text::blanks_from` meets its contract. The loop's invariant: the first i bytes are blanks.
-- Assumes nothing.
use Prim.Native.Nat.{◌≤◌}
use Rattle.text.proofs.Readings.{Blanked}
use Rattle.text.proofs.blanks_from.Given as goal

abbrev pub invariant-loop-i : goal.invariant-loop-i
invariant-loop-i l =
    (l.i ≤ l.n) × Blanked l.s l.from l.i
