-- `text::read_column` meets its contract: behind its blanks a number fills the columns.
-- Assumes nothing.
use Rattle.text.proofs.Readings.{no_column, column_short, column_right}
use native.Mathlib.Omega.{arith}
use Rattle.text.proofs.read_column.Goals as goal

pub returns-in_err-v : goal.returns-in_err-v
returns-in_err-v c =
    rw c.from_residual.ensures (
    no_column c.blanks_from-k.ensures (rw c.in_err-v.was at c.number_at.ensures))

pub returns-then-past-at : goal.returns-then-past-at
returns-then-past-at c =
    column_short c.blanks_from-k.ensures (rw c.in_ok-v.was at c.number_at.ensures) c.if-past-at.true

pub returns : goal.returns
returns c =
    column_right c.blanks_from-k.ensures (rw c.in_ok-v.was at c.number_at.ensures) c.requires c.if-past-at.false
