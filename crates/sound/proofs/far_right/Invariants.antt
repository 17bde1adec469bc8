-- `sound::far_right` meets its contract: the darts below i are right with those that they link to, and the first c keys are their labels.
-- Assumes nothing.
use mathlib.Core.Path.{◌≡◌}
use lib.ListN.{length}
use Prim.Native.Nat.{◌-◌}
use Rattle.columns.specs.Columns.{far_test}
use Rattle.sound.proofs.Passes.{Going, Gathering}
use Rattle.sound.proofs.far_right.Given as goal

abbrev pub invariant-loop-i : goal.invariant-loop-i
invariant-loop-i l =
    Going (far_test l.block) l.n l.i × Gathering l.block l.n l.keys l.c l.i × (length l.keys ≡ length l.initial.keys)

abbrev pub decreases-loop-i : goal.decreases-loop-i
decreases-loop-i l =
    l.n - l.i
