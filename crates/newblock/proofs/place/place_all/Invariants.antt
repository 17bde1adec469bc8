-- `newblock::place::place_all` meets its contract. The loop's invariant: the first `i` darts have places.
-- Assumes nothing.
use Rattle.newblock.proofs.Resolving.{Placing}
use Rattle.newblock.proofs.place.place_all.Given as goal

abbrev pub invariant-loop-i : goal.invariant-loop-i
invariant-loop-i l =
    Placing l.initial.block l.block l.i
