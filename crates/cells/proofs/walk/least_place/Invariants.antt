-- `cells::walk::least_place` meets its contract. The loop's invariant: `low` is the least of the places before i.
-- The measure is what is left of the list. Assumes nothing.
use Prim.Native.Nat.{◌≤◌}
use Rattle.cells.proofs.Resets.{Lowest}
use Rattle.cells.proofs.walk.least_place.Given as goal

abbrev pub invariant-loop-i : goal.invariant-loop-i
invariant-loop-i l =
    (l.i ≤ l.count) × Lowest l.order l.i l.low
