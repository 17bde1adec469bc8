-- `groups::read_more` meets its contract. The loop's invariant (`Reading`): the groups read so far, with what is read from p on,
-- give the number, and fit. The measure is what is left of the slice. Assumes nothing.
use Rattle.groups.proofs.Reading.{Reading}
use Rattle.groups.proofs.read_more.Given as goal

abbrev pub invariant-loop-p : goal.invariant-loop-p
invariant-loop-p l =
    Reading l.s l.from l.first l.more l.p l.low l.scale l.left
