-- `savefile::put::put_darts` meets its contract: the darts below i are stored, up to past.
-- Assumes nothing.
use Rattle.savefile.proofs.Pieces.{Laying}
use Rattle.savefile.proofs.FileBytes.{dart_bytes}
use Rattle.savefile.proofs.put.put_darts.Given as goal

abbrev pub invariant-loop-i : goal.invariant-loop-i
invariant-loop-i l =
    Laying (dart_bytes l.block) l.n l.at l.initial.out l.out l.past l.i
