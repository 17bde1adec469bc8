-- `groups::put_across` meets its contract. The loop's invariant is that of `put_inside`; each store tests for room. Assumes nothing.
use Rattle.groups.proofs.Writing.{Putting}
use Rattle.groups.proofs.put_across.Given as goal

abbrev pub invariant-loop-x : goal.invariant-loop-x
invariant-loop-x l =
    Putting l.initial.out l.at l.v l.out l.p l.x

abbrev pub decreases-loop-x : goal.decreases-loop-x
decreases-loop-x l =
    l.x
