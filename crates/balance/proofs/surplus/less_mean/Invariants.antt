-- `balance::surplus::less_mean` meets its contract. Assumes nothing.
use lib.IntN.{pos, sub_ℕ}
use lib.ListN.{get_or}
use Rattle.balance.proofs.SurplusLaws.{Filling}
use Rattle.balance.proofs.surplus.less_mean.Given as goal

abbrev pub invariant-loop-i : goal.invariant-loop-i
invariant-loop-i l =
    Filling (pos 0) (λ j. sub_ℕ (get_or l.c j 0) l.mean) l.k l.s l.i
