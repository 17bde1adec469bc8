-- `redirect::codes::index_of` meets its contract. The loop's invariant: the index, if there is one, is one of `left` from `low` on.
-- Assumes nothing.
use lib.ListN.{get_or}
use Rattle.memory.proofs.Lookups.{Halving}
use Rattle.redirect.proofs.codes.index_of.Given as goal

abbrev pub invariant-loop-left : goal.invariant-loop-left
invariant-loop-left l =
    Halving l.c (λ k. get_or l.codes k 0) l.x l.low l.left

abbrev pub decreases-loop-left : goal.decreases-loop-left
decreases-loop-left l =
    l.left
