-- `redirect::codes::read_codes` meets its contract. The loop's invariant: the codes below i are those of the labels passed.
-- Assumes nothing.
use mathlib.Core.Path.{◌≡◌}
use lib.ListN.{length}
use Rattle.redirect.proofs.ReadCodes.{Reading}
use Rattle.redirect.proofs.codes.read_codes.Given as goal

abbrev pub invariant-loop-i : goal.invariant-loop-i
invariant-loop-i l =
    Reading l.s l.at l.count l.codes l.i l.p × (length l.codes ≡ length l.initial.codes)
