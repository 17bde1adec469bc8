-- `cells::sewn::sewn_within` meets its contract. The loop's invariant: no dart before i is sewn to a marked one.
-- The measure is what is left of the darts. Assumes nothing.
use Prim.Native.Nat.{ℕ, ◌<◌, ◌≤◌}
use mathlib.Core.Path.{◌≡◌}
use mathlib.Core.Bool.{false}
use lib.ListN.{get_or}
use Rattle.cells.specs.Places.{sewn_in}
use Rattle.cells.proofs.sewn.sewn_within.Given as goal

abbrev pub invariant-loop-i : goal.invariant-loop-i
invariant-loop-i l =
    (l.i ≤ l.darts) × ((k : ℕ) → k < l.i → sewn_in l.block l.marks (get_or l.order k 0) ≡ false)
