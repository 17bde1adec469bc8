-- `listing::put_refused` meets its contract: a text and a number, one stored after the other.
-- Assumes nothing.
use Rattle.model.specs.Text.{bytes}
use Rattle.groups.proofs.Writing.{stored_then}
use Rattle.theory.proofs.TextLaws.{decimal_ten}
use Rattle.listing.proofs.Copies.{stored_past, printed}
use Rattle.listing.proofs.LineTexts.{ended_line, ended_most}
use native.Mathlib.Omega.{arith}
use Rattle.listing.proofs.put_refused.Goals as goal

pub put_number-requires : goal.put_number-requires
put_number-requires c =
    let p = stored_past 8 c.put_text-past_text.ensures (omega arith) in
    (omega arith, omega (arith, decimal_ten c.args.number (omega arith), c.requires))

pub returns : goal.returns
unfolding bytes
returns c =
    let d = ended_most 10 c.args.number 10 (decimal_ten c.args.number (omega arith)) in
    rw (ended_line (bytes "refused ") c.args.number)
    (printed (stored_then c.put_text-past_text.ensures c.put_number.ensures) (omega (arith, c.requires)))
