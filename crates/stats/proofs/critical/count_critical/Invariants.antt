-- `stats::critical::count_critical` meets its contract. The loop's invariant: the count of the faces before f that are critical.
-- Assumes nothing.
use mathlib.Core.Path.{◌≡◌}
use Prim.Native.Nat.{◌≤◌}
use lib.ListN.{length, take}
use Rattle.model.specs.Lists.{keep, tab}
use Rattle.model.specs.Cells.{faces, start_of}
use Rattle.model.specs.Image.{column}
use Rattle.stats.specs.BlockCounts.{critical_at}
use Rattle.stats.proofs.critical.count_critical.Given as goal

abbrev pub invariant-loop-f : goal.invariant-loop-f
invariant-loop-f l =
    (l.f ≤ l.count) × (l.critical ≤ l.f) ×
    (l.critical ≡ length (keep (λ w. critical_at l.block (start_of w)) (take l.f (faces (column l.block 1) (tab (λ p. p) l.n)))))
