-- `listing::text::put_decimal` meets its contract: what is left of the number, put before p, gives the same slice in the end.
-- Assumes nothing.
use Rattle.listing.proofs.Digits.{Spelling}
use Rattle.listing.proofs.text.put_decimal.Given as goal

abbrev pub invariant-loop-x : goal.invariant-loop-x
invariant-loop-x l =
    Spelling l.initial.out l.at l.v l.out l.p l.x

abbrev pub decreases-loop-x : goal.decreases-loop-x
decreases-loop-x l =
    l.x
