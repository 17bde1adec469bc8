-- `parts::indices::fit` meets its contract.
-- Assumes nothing.
use Rattle.parts.specs.Indices.{fits_at}
use Rattle.arrival.proofs.Steps.{Passing}
use Rattle.parts.proofs.indices.fit.Given as goal

abbrev pub invariant-loop-e : goal.invariant-loop-e
invariant-loop-e l =
    Passing (fits_at l.indices l.starts l.marks l.k) l.e
