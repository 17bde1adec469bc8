-- `writepages::line::put_numbers` meets its contract: three columns, one stored after the other.
-- Assumes nothing.
use Rattle.theory.proofs.PageLaws.{column_length}
use Rattle.groups.proofs.Writing.{stored_then}
use native.Mathlib.Omega.{arith}
use Rattle.writepages.proofs.line.put_numbers.Goals as goal

pub put_number_column-past_b-requires : goal.put_number_column-past_b-requires
put_number_column-past_b-requires c =
    (c.requires.1, omega (arith, c.requires.3, c.put_number_column-past_a.ensures.past, column_length c.args.a c.requires.0))

pub put_number_column-requires : goal.put_number_column-requires
put_number_column-requires c =
    let a-wide = column_length c.args.a c.requires.0 in
    let b-wide = column_length c.args.b c.requires.1 in
    (c.requires.2, omega (arith, c.requires.3, c.put_number_column-past_a.ensures.past, c.put_number_column-past_b.ensures.past))

pub returns : goal.returns
returns c =
    stored_then (stored_then c.put_number_column-past_a.ensures c.put_number_column-past_b.ensures) c.put_number_column.ensures
