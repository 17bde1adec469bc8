-- `cells::sewn::count_sewn` meets its contract. The loop's invariant: the count of the faces before f that are sewn away.
-- The measure is what is left of the faces. Assumes nothing.
use mathlib.Core.Path.{◌≡◌}
use Prim.Native.Nat.{◌≤◌}
use lib.ListN.{length, take}
use Rattle.model.specs.Lists.{keep}
use Rattle.model.specs.Cells.{faces, start_of}
use Rattle.model.specs.Image.{column}
use Rattle.cells.specs.Places.{marked, sewn_out}
use Rattle.cells.proofs.sewn.count_sewn.Given as goal

abbrev pub invariant-loop-f : goal.invariant-loop-f
invariant-loop-f l =
    (l.f ≤ l.count) × (l.sewn ≤ l.f) ×
    (l.sewn ≡ length (keep (λ w. sewn_out l.block l.marks (start_of w)) (take l.f (faces (column l.block 1) (marked l.n l.marks)))))
