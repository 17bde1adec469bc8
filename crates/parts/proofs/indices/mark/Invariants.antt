-- `parts::indices::mark` meets its contract.
-- Assumes nothing.
use Prim.Native.Nat.{◌≤◌}
use Rattle.parts.proofs.IndexLaws.{Marking}
use Rattle.parts.proofs.indices.mark.Given as goal

abbrev pub invariant-loop-e : goal.invariant-loop-e
invariant-loop-e l =
    Marking l.indices l.initial.marks l.marks l.e × (l.e ≤ l.c)
