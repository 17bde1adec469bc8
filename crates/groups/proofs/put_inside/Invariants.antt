-- `groups::put_inside` meets its contract. The loop's invariant (`Putting`): what is left of the number, put where the next group goes,
-- gives the same slice in the end. The measure is what is left. Assumes nothing.
use Rattle.groups.proofs.Writing.{Putting}
use Rattle.groups.proofs.put_inside.Given as goal

abbrev pub invariant-loop-x : goal.invariant-loop-x
invariant-loop-x l =
    Putting l.initial.out l.at l.v l.out l.p l.x

abbrev pub decreases-loop-x : goal.decreases-loop-x
decreases-loop-x l =
    l.x
