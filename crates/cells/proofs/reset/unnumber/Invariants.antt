-- `cells::reset::unnumber` meets its contract. The loop's invariant: the places before i of the list have no number.
-- The measure is what is left of the list. Assumes nothing.
use Prim.Native.Nat.{◌≤◌}
use lib.ListN.{take}
use Rattle.model.specs.Values.{room}
use Rattle.cells.specs.Places.{Assigned}
use Rattle.cells.proofs.reset.unnumber.Given as goal

abbrev pub invariant-loop-i : goal.invariant-loop-i
invariant-loop-i l =
    (l.i ≤ l.count) × Assigned room (take l.i l.order) l.initial.numbers l.numbers
