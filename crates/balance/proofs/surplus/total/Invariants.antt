-- `balance::surplus::total` meets its contract. Assumes nothing.
use lib.ListN.{get_or}
use Rattle.balance.proofs.SurplusLaws.{Summing}
use Rattle.balance.proofs.surplus.total.Given as goal

abbrev pub invariant-loop-x : goal.invariant-loop-x
invariant-loop-x l =
    Summing (λ j. get_or l.fn.c j 0) l.k l.t l.x-index
