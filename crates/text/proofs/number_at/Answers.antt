-- `text::number_at` meets its contract: all the digits that stand there, in their shortest form, are the number.
-- Assumes nothing.
use Rattle.text.proofs.Readings.{run_empty, run_zero, run_number, run_some}
use mathlib.Core.Path.{sym, ◌∙◌}
use Rattle.text.proofs.number_at.Goals as goal

pub returns-in_err-v : goal.returns-in_err-v
returns-in_err-v c =
    rw c.from_residual.ensures (
    rw c.in_err-v.was at c.digits.ensures)

pub returns-then-past-from : goal.returns-then-past-from
returns-then-past-from c =
    run_empty (rw c.in_ok-v.was at c.digits.ensures) c.if-past-from.true

pub zero_in_front-requires : goal.zero_in_front-requires
zero_in_front-requires c =
    run_some (rw c.in_ok-v.was at c.digits.ensures) c.if-past-from.false c.requires

pub returns-then-zero_in_front : goal.returns-then-zero_in_front
returns-then-zero_in_front c =
    run_zero (rw c.in_ok-v.was at c.digits.ensures) (sym c.zero_in_front.ensures ∙ c.if-zero_in_front.true)

pub returns : goal.returns
returns c =
    run_number (rw c.in_ok-v.was at c.digits.ensures) c.requires c.if-past-from.false (sym c.zero_in_front.ensures ∙ c.if-zero_in_front.false)
