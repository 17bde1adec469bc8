-- `readpages::raw::rest_blank` meets its contract. The loop's invariant: the lines from n on and before i have blanks alone.
-- Assumes nothing.
use Prim.Native.Nat.{◌≤◌}
use Rattle.readpages.proofs.PageTexts.{Rest}
use Rattle.readpages.proofs.raw.rest_blank.Given as goal

abbrev pub invariant-loop-i : goal.invariant-loop-i
invariant-loop-i l =
    (l.n ≤ l.i) × (l.i ≤ l.most) × Rest l.s l.n l.i
