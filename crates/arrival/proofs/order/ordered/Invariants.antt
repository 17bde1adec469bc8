-- `arrival::order::ordered` meets its contract.
-- Assumes nothing.
use Rattle.arrival.specs.Sides.{order_at}
use Rattle.arrival.proofs.Steps.{Passing}
use Rattle.arrival.proofs.order.ordered.Given as goal

abbrev pub invariant-loop-i : goal.invariant-loop-i
invariant-loop-i l =
    Passing (order_at l.serial l.starts) l.i
