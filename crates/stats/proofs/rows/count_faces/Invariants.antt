-- `stats::rows::count_faces` meets its contract. The loop's invariant (`Faces`): the faces before f are counted.
-- Assumes nothing.
use Rattle.stats.specs.Counting.{cell_word}
use Rattle.stats.proofs.CountLaws.{Faces, each}
use Rattle.stats.proofs.rows.count_faces.Given as goal

abbrev pub invariant-loop-f : goal.invariant-loop-f
invariant-loop-f l =
    Faces l.block (cell_word l.numbers 2) each l.initial.rows l.faces l.f l.rows
