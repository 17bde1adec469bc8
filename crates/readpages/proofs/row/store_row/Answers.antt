-- `readpages::row::store_row` meets its contract: a row is stored if it could be read and its serial is above the last one.
-- Assumes nothing.
use Rattle.readpages.proofs.RowTexts.{none_there, none_above, row_stored}
use native.Mathlib.Omega.{arith}
use Rattle.readpages.proofs.row.store_row.Goals as goal

pub returns-in_err-row : goal.returns-in_err-row
returns-in_err-row c =
    rw c.from_residual.ensures (
    none_there (rw c.in_err-row.was at c.read_row.ensures))

pub returns-then-serial-last : goal.returns-then-serial-last
returns-then-serial-last c =
    none_above (rw c.in_ok-row.was at c.read_row.ensures) c.if-serial-last.true

pub returns : goal.returns
returns c =
    row_stored (rw c.in_ok-row.was at c.read_row.ensures) (omega (arith, c.if-serial-last.false)) c.put_record.ensures
