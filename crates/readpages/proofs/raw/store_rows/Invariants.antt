-- `readpages::raw::store_rows` meets its contract. The loop's invariant: the first i rows are stored, in ascending serial up to `last`.
-- Assumes nothing.
use Rattle.readpages.proofs.Filling.{Filling}
use Rattle.readpages.proofs.raw.store_rows.Given as goal

abbrev pub invariant-loop-i : goal.invariant-loop-i
invariant-loop-i l =
    Filling l.s l.n l.initial.block l.block l.last l.i
