-- `readpages::third::read_label` meets its contract: three numbers, each with the byte that ends it.
-- Assumes nothing.
use Rattle.readpages.proofs.ThirdTexts.{blank_no_digit, dot_no_digit, ended_past, no_maker, no_number, no_position, maker_large, position_large, label_found}
use native.Mathlib.Omega.{arith}
use Rattle.readpages.proofs.third.read_label.Goals as goal

pub number_before-requires : goal.number_before-requires
number_before-requires c =
    (omega (arith, c.requires), dot_no_digit)

pub returns-in_err-maker : goal.returns-in_err-maker
returns-in_err-maker c =
    rw c.from_residual.ensures (
    no_maker (rw c.in_err-maker.was at c.number_before.ensures))

pub number_before-requires-2 : goal.number_before-requires-2
number_before-requires-2 c =
    (omega (arith, c.requires, ended_past (rw c.in_ok-maker.was at c.number_before.ensures)), dot_no_digit)

pub returns-in_err-number : goal.returns-in_err-number
returns-in_err-number c =
    rw c.from_residual-in_err-number.ensures (
    no_number (rw c.in_ok-maker.was at c.number_before.ensures) (rw c.in_err-number.was at c.number_before-2.ensures))

pub number_before-requires-3 : goal.number_before-requires-3
number_before-requires-3 c = (
  omega
      (arith, c.requires, ended_past (rw c.in_ok-maker.was at c.number_before.ensures), ended_past (rw c.in_ok-number.was at c.number_before-2.ensures)),
  blank_no_digit,
)

pub returns-in_err-position : goal.returns-in_err-position
returns-in_err-position c =
    rw c.from_residual-in_err-position.ensures (
    no_position (rw c.in_ok-maker.was at c.number_before.ensures) (rw c.in_ok-number.was at c.number_before-2.ensures)
    (rw c.in_err-position.was at c.number_before-3.ensures))

pub returns-then-maker-ge-BLOCKS : goal.returns-then-maker-ge-BLOCKS
returns-then-maker-ge-BLOCKS c =
    maker_large (rw c.in_ok-maker.was at c.number_before.ensures) (rw c.in_ok-number.was at c.number_before-2.ensures)
    (rw c.in_ok-position.was at c.number_before-3.ensures) c.if-maker-ge-BLOCKS.true

pub returns-then-position-ge-POSITIONS : goal.returns-then-position-ge-POSITIONS
returns-then-position-ge-POSITIONS c =
    position_large (rw c.in_ok-maker.was at c.number_before.ensures) (rw c.in_ok-number.was at c.number_before-2.ensures)
    (rw c.in_ok-position.was at c.number_before-3.ensures) c.if-position-ge-POSITIONS.true

pub code_of-requires : goal.code_of-requires
code_of-requires c =
    let number = rw c.in_ok-number.was at c.number_before-2.ensures in
    (omega (arith, c.if-maker-ge-BLOCKS.false), number.small, omega (arith, c.if-position-ge-POSITIONS.false))

pub returns : goal.returns
returns c =
    label_found (rw c.in_ok-maker.was at c.number_before.ensures) (rw c.in_ok-number.was at c.number_before-2.ensures)
    (rw c.in_ok-position.was at c.number_before-3.ensures)
    (omega (arith, c.if-maker-ge-BLOCKS.false)) (omega (arith, c.if-position-ge-POSITIONS.false)) c.code_of.ensures
