-- `listing::lines::put_darts` meets its contract: the lines below i are stored, up to past; each has at most 60 bytes.
-- Assumes nothing.
use Rattle.savefile.proofs.Pieces.{Placing}
use Rattle.listing.proofs.LineTexts.{dart_text}
use Rattle.listing.proofs.lines.put_darts.Given as goal

abbrev pub invariant-loop-i : goal.invariant-loop-i
invariant-loop-i l =
    Placing (dart_text l.block) l.n l.at l.initial.out l.out l.past l.i
