-- `listing::text::digit_count` meets its contract: the digits before the last n - 1 are those of what is left.
-- Assumes nothing.
use Rattle.listing.proofs.Digits.{Counted}
use Rattle.listing.proofs.text.digit_count.Given as goal

abbrev pub invariant-loop-x : goal.invariant-loop-x
invariant-loop-x l =
    Counted l.v l.n l.x

abbrev pub decreases-loop-x : goal.decreases-loop-x
decreases-loop-x l =
    l.x
