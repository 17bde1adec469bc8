-- `readpages::raw::column_is` meets its contract. Assumes nothing.
use Rattle.readpages.proofs.PageTexts.{column_found, column_missing}
use Rattle.readpages.proofs.raw.column_is.Goals as goal

pub returns-in-Some : goal.returns-in-Some
returns-in-Some c =
    column_found (rw c.in-Some.is at c.read_column.ensures) c.requires.1

pub returns-in-None : goal.returns-in-None
returns-in-None c =
    column_missing (rw c.in-None.is at c.read_column.ensures) c.requires.1
