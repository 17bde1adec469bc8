-- `arrival::volume::numbers_same` meets its contract.
-- Assumes nothing.
use lib.Dec.{eqb}
use lib.ListN.{get_or}
use Rattle.arrival.proofs.Steps.{Passing}
use Rattle.arrival.proofs.volume.numbers_same.Given as goal

abbrev pub invariant-loop-i : goal.invariant-loop-i
invariant-loop-i l =
    Passing (λ j. eqb (get_or l.vertex j 0) (get_or l.numbers (get_or l.ranks j 0) 0)) l.i
