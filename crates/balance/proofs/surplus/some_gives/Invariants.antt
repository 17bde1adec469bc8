-- `balance::surplus::some_gives` meets its contract. Assumes nothing.
use Rattle.model.specs.Balance.{may_give}
use Rattle.balance.proofs.SurplusLaws.{Seeking}
use Rattle.balance.proofs.surplus.some_gives.Given as goal

abbrev pub invariant-loop-x : goal.invariant-loop-x
invariant-loop-x l =
    Seeking (λ x. may_give x l.low) l.fn.c l.x-index
