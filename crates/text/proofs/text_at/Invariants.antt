-- `text::text_at` meets its contract. The loop's invariant: the first i bytes of the text stand there.
-- Assumes nothing.
use Rattle.text.proofs.Readings.{Matching}
use Rattle.text.proofs.text_at.Given as goal

abbrev pub invariant-loop-i : goal.invariant-loop-i
invariant-loop-i l =
    Matching l.s l.at l.text l.i
