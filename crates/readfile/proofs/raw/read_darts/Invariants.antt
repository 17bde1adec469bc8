-- `readfile::raw::read_darts` meets its contract. The loop's invariant: the first `i` darts are stored, in ascending serial up to `last`, and what is read at `at` goes on from them.
-- Assumes nothing.
use Rattle.readfile.proofs.Storing.{Filling}
use Rattle.readfile.proofs.raw.read_darts.Given as goal

abbrev pub invariant-loop-i : goal.invariant-loop-i
invariant-loop-i l =
    Filling l.file l.from l.n l.initial.block l.block l.i l.last l.at
