-- `stats::rows::count_darts` meets its contract. The loop's invariant (`Darts`): the darts before p are counted.
-- Assumes nothing.
use Rattle.stats.proofs.CountLaws.{Darts}
use Rattle.stats.proofs.rows.count_darts.Given as goal

abbrev pub invariant-loop-p : goal.invariant-loop-p
invariant-loop-p l =
    Darts l.block l.numbers l.initial.rows l.p l.rows
