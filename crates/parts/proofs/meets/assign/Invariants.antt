-- `parts::meets::assign` meets its contract.
-- Assumes nothing.
use Prim.Native.Nat.{◌≤◌}
use lib.ListN.{take}
use Rattle.cells.specs.Places.{Assigned}
use Rattle.parts.proofs.meets.assign.Given as goal

abbrev pub invariant-loop-j : goal.invariant-loop-j
invariant-loop-j l =
    Assigned 1 (take l.j l.trail) l.initial.seen l.seen × (l.j ≤ l.size)
