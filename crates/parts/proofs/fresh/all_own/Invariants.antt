-- `parts::fresh::all_own` meets its contract.
-- Assumes nothing.
use Rattle.parts.specs.Fresh.{own_at}
use Rattle.arrival.proofs.Steps.{Passing}
use Rattle.parts.proofs.fresh.all_own.Given as goal

abbrev pub invariant-loop-q : goal.invariant-loop-q
invariant-loop-q l =
    Passing (own_at l.number l.counter l.kinds l.links) l.q
