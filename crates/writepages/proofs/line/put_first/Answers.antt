-- `writepages::line::put_first` meets its contract: three numbers, blanks and a line feed, one stored after the other.
-- Assumes nothing.
use Rattle.model.specs.Pages.{first_line}
use Rattle.groups.proofs.Writing.{stored_then}
use Rattle.writepages.proofs.Lines.{three_length}
use native.Mathlib.Omega.{arith}
use Rattle.writepages.proofs.line.put_first.Goals as goal

pub put_blanks-past_blanks-requires : goal.put_blanks-past_blanks-requires
put_blanks-past_blanks-requires c =
    let wide = three_length c.args.number c.args.page c.args.count c.requires.0 c.requires.1 c.requires.2 in
    omega (arith, c.requires.3, c.put_numbers-past_numbers.ensures.past)

pub put_byte-requires : goal.put_byte-requires
put_byte-requires c =
    let wide = three_length c.args.number c.args.page c.args.count c.requires.0 c.requires.1 c.requires.2 in
    omega (arith, c.requires.3, c.put_numbers-past_numbers.ensures.past, c.put_blanks-past_blanks.ensures.past)

pub returns : goal.returns
unfolding first_line
returns c =
    stored_then (stored_then c.put_numbers-past_numbers.ensures c.put_blanks-past_blanks.ensures) c.put_byte.ensures
