-- `parts::meets::put_met` meets its contract.
-- Assumes nothing.
use Prim.Native.Nat.{◌≤◌}
use Rattle.parts.specs.Faces.{Over}
use Rattle.parts.specs.Meets.{met_at}
use Rattle.parts.proofs.meets.put_met.Given as goal

abbrev pub invariant-loop-j : goal.invariant-loop-j
invariant-loop-j l =
    Over l.first l.j (met_at l.trail l.size) l.initial.links l.links × (l.j ≤ l.size)
