-- `parts::numbers::consecutive` meets its contract.
-- Assumes nothing.
use Prim.Native.Nat.{◌≤◌}
use Rattle.parts.specs.Numbers.{follows_at}
use Rattle.arrival.proofs.Steps.{Passing}
use Rattle.parts.proofs.numbers.consecutive.Given as goal

abbrev pub invariant-loop-e : goal.invariant-loop-e
invariant-loop-e l =
    Passing (follows_at l.numbers) l.e × (l.e ≤ l.c)
