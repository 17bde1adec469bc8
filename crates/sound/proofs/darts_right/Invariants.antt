-- `sound::darts_right` meets its contract: the darts below i are right by themselves, and their nexts are marked, no two the same.
-- Assumes nothing.
use mathlib.Core.Path.{◌≡◌}
use Prim.Native.Nat.{◌-◌}
use lib.ListN.{length, get_or}
use Rattle.model.specs.Image.{column}
use Rattle.columns.specs.Columns.{before, dart_test}
use Rattle.sound.proofs.Passes.{Passing}
use Rattle.sound.proofs.darts_right.Given as goal

abbrev pub invariant-loop-i : goal.invariant-loop-i
invariant-loop-i l =
    Passing (dart_test l.block l.n) (column l.block 1) l.n l.seen l.i × (l.last ≡ before (column l.block 0) l.i) × (l.me ≡ get_or l.block 0 0) ×
    (l.counter ≡ get_or l.block 1 0)
    × (length l.seen ≡ length l.initial.seen)

abbrev pub decreases-loop-i : goal.decreases-loop-i
decreases-loop-i l =
    l.n - l.i
