-- `listing::lines::put_dart` meets its contract: four texts and the end of the line, one stored after the other.
-- Assumes nothing.
use Rattle.model.specs.Image.{column}
use Rattle.groups.proofs.Writing.{stored_then}
use Rattle.theory.proofs.TextLaws.{decimal_ten}
use Rattle.listing.proofs.Copies.{stored_past}
use Rattle.listing.proofs.LineTexts.{ended_most, third_short, dart_parts}
use native.Mathlib.Omega.{arith}
use Rattle.listing.proofs.lines.put_dart.Goals as goal

pub put_number-past_serial-requires : goal.put_number-past_serial-requires
put_number-past_serial-requires c =
    let block = c.args.block.now in
    let p' = c.args.p.0 in
    rw c.field.ensures (c.requires.0.serial_small, omega (arith, decimal_ten (column block 0 p') c.requires.0.serial_small, c.requires.1))

pub put_number-past_next-requires : goal.put_number-past_next-requires
put_number-past_next-requires c =
    let block = c.args.block.now in
    let p' = c.args.p.0 in
    let a = rw c.field.ensures at c.put_number-past_serial.ensures in
    let p = stored_past 11 a (ended_most 10 (column block 0 p') 32 (decimal_ten (column block 0 p') c.requires.0.serial_small)) in
    rw c.serial_along.ensures (
      c.requires.0.next_small,
      omega (arith, decimal_ten (column block 0 (column block 1 p')) c.requires.0.next_small, c.requires.1),
    )

pub put_number-past_opposite-requires : goal.put_number-past_opposite-requires
put_number-past_opposite-requires c =
    let block = c.args.block.now in
    let p' = c.args.p.0 in
    let a = rw c.field.ensures at c.put_number-past_serial.ensures in
    let p = stored_past 11 a (ended_most 10 (column block 0 p') 32 (decimal_ten (column block 0 p') c.requires.0.serial_small)) in
    let b = rw c.serial_along.ensures at c.put_number-past_next.ensures in
    let q =
    stored_past 11 b
    (ended_most 10 (column block 0 (column block 1 p')) 32
    (decimal_ten (column block 0 (column block 1 p')) c.requires.0.next_small)) in
    rw c.serial_along-2.ensures (
      c.requires.0.opposite_small,
      omega (arith, decimal_ten (column block 0 (column block 2 p')) c.requires.0.opposite_small, c.requires.1),
    )

pub put_third-past_third-requires : goal.put_third-past_third-requires
put_third-past_third-requires c =
    let block = c.args.block.now in
    let p' = c.args.p.0 in
    let a = rw c.field.ensures at c.put_number-past_serial.ensures in
    let p = stored_past 11 a (ended_most 10 (column block 0 p') 32 (decimal_ten (column block 0 p') c.requires.0.serial_small)) in
    let b = rw c.serial_along.ensures at c.put_number-past_next.ensures in
    let q =
    stored_past 11 b
    (ended_most 10 (column block 0 (column block 1 p')) 32
    (decimal_ten (column block 0 (column block 1 p')) c.requires.0.next_small)) in
    let d = rw c.serial_along-2.ensures at c.put_number-past_opposite.ensures in
    let r =
    stored_past 11 d
    (ended_most 10 (column block 0 (column block 2 p')) 32
    (decimal_ten (column block 0 (column block 2 p')) c.requires.0.opposite_small)) in
    rw (c.field-kind.ensures, c.third_along.ensures) (c.requires.0.third_small, omega (arith, c.requires.1))

pub put_byte-requires : goal.put_byte-requires
put_byte-requires c =
    let block = c.args.block.now in
    let p' = c.args.p.0 in
    let a = rw c.field.ensures at c.put_number-past_serial.ensures in
    let p = stored_past 11 a (ended_most 10 (column block 0 p') 32 (decimal_ten (column block 0 p') c.requires.0.serial_small)) in
    let b = rw c.serial_along.ensures at c.put_number-past_next.ensures in
    let q =
    stored_past 11 b
    (ended_most 10 (column block 0 (column block 1 p')) 32
    (decimal_ten (column block 0 (column block 1 p')) c.requires.0.next_small)) in
    let d = rw c.serial_along-2.ensures at c.put_number-past_opposite.ensures in
    let r =
    stored_past 11 d
    (ended_most 10 (column block 0 (column block 2 p')) 32
    (decimal_ten (column block 0 (column block 2 p')) c.requires.0.opposite_small)) in
    let t = rw (c.field-kind.ensures, c.third_along.ensures) at c.put_third-past_third.ensures in
    let s = stored_past 26 t (third_short c.requires.0.third_small) in
    omega (arith, c.requires.1)

pub returns : goal.returns
returns c =
    let a = rw c.field.ensures at c.put_number-past_serial.ensures in
    let b = rw c.serial_along.ensures at c.put_number-past_next.ensures in
    let d = rw c.serial_along-2.ensures at c.put_number-past_opposite.ensures in
    let t = rw (c.field-kind.ensures, c.third_along.ensures) at c.put_third-past_third.ensures in
    rw (dart_parts _ _) (stored_then (stored_then (stored_then (stored_then a b) d) t) c.put_byte.ensures)
