-- `readpages::raw::firsts_right` meets its contract. The loop's invariant: the first k pages begin with their first lines.
-- Assumes nothing.
use Prim.Native.Nat.{◌≤◌}
use Rattle.readpages.proofs.PageTexts.{Firsts}
use Rattle.readpages.proofs.raw.firsts_right.Given as goal

abbrev pub invariant-loop-k : goal.invariant-loop-k
invariant-loop-k l =
    (l.k ≤ l.total) × Firsts l.s l.number l.total l.k
