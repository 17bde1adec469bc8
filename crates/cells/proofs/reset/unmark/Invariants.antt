-- `cells::reset::unmark` meets its contract. The loop's invariant: the places before i of the list are unmarked.
-- The measure is what is left of the list. Assumes nothing.
use Prim.Native.Nat.{◌≤◌}
use lib.ListN.{take}
use Rattle.cells.specs.Places.{Assigned}
use Rattle.cells.proofs.reset.unmark.Given as goal

abbrev pub invariant-loop-i : goal.invariant-loop-i
invariant-loop-i l =
    (l.i ≤ l.count) × Assigned 0 (take l.i l.order) l.initial.marks l.marks
