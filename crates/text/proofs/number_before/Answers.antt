-- `text::number_before` meets its contract: the byte behind all the digits ends the number.
-- Assumes nothing.
use Rattle.text.proofs.Readings.{number_past, no_ended, other_end, right_end}
use native.Mathlib.Omega.{arith}
use Rattle.text.proofs.number_before.Goals as goal

pub returns-in_err-v : goal.returns-in_err-v
returns-in_err-v c =
    rw c.from_residual.ensures (
    no_ended c.requires.1 (rw c.in_err-v.was at c.number_at.ensures))

pub bounds-s-past : goal.bounds-s-past
bounds-s-past c =
    omega (arith, c.requires.0, number_past (rw c.in_ok-v.was at c.number_at.ensures))

pub returns-then-s-past : goal.returns-then-s-past
returns-then-s-past c =
    other_end (rw c.in_ok-v.was at c.number_at.ensures) c.requires.1 c.if-s-past.true

pub overflow_add-result : goal.overflow_add-result
overflow_add-result c =
    omega (arith, c.requires.0, number_past (rw c.in_ok-v.was at c.number_at.ensures))

pub returns : goal.returns
returns c =
    let number = rw c.in_ok-v.was at c.number_at.ensures in
    right_end number (omega (arith, c.requires.0, number_past number)) c.if-s-past.false
