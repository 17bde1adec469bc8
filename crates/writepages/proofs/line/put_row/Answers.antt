-- `writepages::line::put_row` meets its contract: three numbers, two blanks, the third link and a line feed, one stored after the other.
-- Assumes nothing.
use Rattle.groups.proofs.Writing.{stored_then, stored_length}
use Rattle.writepages.proofs.Columns.{third_wide}
use Rattle.writepages.proofs.Lines.{numbers_wide, row_parts}
use native.Mathlib.Omega.{arith}
use Rattle.writepages.proofs.line.put_row.Goals as goal

pub put_numbers-past_numbers-requires : goal.put_numbers-past_numbers-requires
put_numbers-past_numbers-requires c =
    let small = c.requires.0 in
    rw (c.field-serial.ensures, c.serial_along-next.ensures, c.serial_along-opposite.ensures)
    (small.serial_small, small.next_small, small.opposite_small, omega (arith, c.requires.1))

pub put_blanks-past_gap-requires : goal.put_blanks-past_gap-requires
put_blanks-past_gap-requires c =
    omega
    (arith, c.requires.1, c.put_numbers-past_numbers.ensures.past, numbers_wide c.requires.0 c.field-serial.ensures c.serial_along-next.ensures c.serial_along-opposite.ensures)

pub put_third_column-past_third-requires : goal.put_third_column-past_third-requires
put_third_column-past_third-requires c = (
  rw (c.field-kind.ensures, c.third_along.ensures) c.requires.0.third_small,
  omega
      (arith, c.requires.1, c.put_numbers-past_numbers.ensures.past, numbers_wide c.requires.0 c.field-serial.ensures c.serial_along-next.ensures c.serial_along-opposite.ensures, c.put_blanks-past_gap.ensures.past),
)

pub put_byte-requires : goal.put_byte-requires
put_byte-requires c =
    let third_column = rw (c.field-kind.ensures, c.third_along.ensures) at c.put_third_column-past_third.ensures in
    omega (
      arith,
      c.requires.1,
      c.put_numbers-past_numbers.ensures.past,
      numbers_wide c.requires.0 c.field-serial.ensures c.serial_along-next.ensures c.serial_along-opposite.ensures,
      c.put_blanks-past_gap.ensures.past,
      third_column.past,
      third_wide c.requires.0.third_small,
      stored_length c.put_numbers-past_numbers.ensures,
      stored_length c.put_blanks-past_gap.ensures,
      stored_length third_column,
    )

pub returns : goal.returns
returns c =
    let numbers = rw (c.field-serial.ensures, c.serial_along-next.ensures, c.serial_along-opposite.ensures) at c.put_numbers-past_numbers.ensures in
    let third_column = rw (c.field-kind.ensures, c.third_along.ensures) at c.put_third_column-past_third.ensures in
    rw (row_parts _ _) (stored_then (stored_then (stored_then numbers c.put_blanks-past_gap.ensures) third_column) c.put_byte.ensures)
