-- `balance::surplus::least` meets its contract. Assumes nothing.
use Rattle.balance.proofs.SurplusLaws.{Lowest}
use Rattle.balance.proofs.surplus.least.Given as goal

abbrev pub invariant-loop-i : goal.invariant-loop-i
invariant-loop-i l =
    Lowest l.c l.k l.low l.i
