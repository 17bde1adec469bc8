-- `arrival::order::vertices_fit` meets its contract.
-- Assumes nothing.
use lib.Dec.{ltb}
use lib.ListN.{get_or}
use Rattle.arrival.proofs.Steps.{Passing}
use Rattle.arrival.proofs.order.vertices_fit.Given as goal

abbrev pub invariant-loop-v : goal.invariant-loop-v
invariant-loop-v l =
    Passing (λ j. ltb (get_or l.vertex j 0) l.count) l.v-index
