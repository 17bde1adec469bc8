-- `stats::rows::count_critical` meets its contract. The loop's invariant (`Faces`): the critical faces before f are counted.
-- Assumes nothing.
use Rattle.stats.specs.BlockCounts.{critical_at}
use Rattle.stats.specs.Counting.{critical_word}
use Rattle.stats.proofs.CountLaws.{Faces}
use Rattle.stats.proofs.rows.count_critical.Given as goal

abbrev pub invariant-loop-f : goal.invariant-loop-f
invariant-loop-f l =
    Faces l.block (critical_word l.block l.numbers) (critical_at l.block) l.initial.rows l.faces l.f l.rows
