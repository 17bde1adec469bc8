-- `readpages::raw::row_count` meets its contract. The loop's invariant: the first i rows have serials.
-- Assumes nothing.
use Prim.Native.Nat.{◌≤◌}
use Rattle.readpages.proofs.PageTexts.{Counting}
use Rattle.readpages.proofs.raw.row_count.Given as goal

abbrev pub invariant-loop-i : goal.invariant-loop-i
invariant-loop-i l =
    (l.i ≤ l.most) × Counting l.s l.i
