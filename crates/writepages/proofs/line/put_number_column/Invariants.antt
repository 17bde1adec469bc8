-- `writepages::line::put_number_column` meets its contract: what is left of the number, right-aligned in the columns before p, gives the same slice in the end.
-- Assumes nothing.
use Rattle.writepages.proofs.Columns.{Aligning}
use Rattle.writepages.proofs.line.put_number_column.Given as goal

abbrev pub invariant-loop-x : goal.invariant-loop-x
invariant-loop-x l =
    Aligning l.initial.out l.at l.v l.out l.p l.x

abbrev pub decreases-loop-x : goal.decreases-loop-x
decreases-loop-x l =
    l.x
