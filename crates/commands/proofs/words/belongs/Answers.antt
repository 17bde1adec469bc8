-- `commands::words::belongs` meets its contract. Assumes nothing.
use Rattle.commands.specs.Words.{is_blank, belongs}
use Rattle.commands.proofs.words.belongs.Goals as goal

pub returns-in-Blanks : goal.returns-in-Blanks
unfolding belongs is_blank
returns-in-Blanks c =
    rw c.in-Blanks.is

pub returns-in-Word : goal.returns-in-Word
unfolding belongs is_blank
returns-in-Word c =
    rw c.in-Word.is

pub returns-in-Line : goal.returns-in-Line
unfolding belongs is_blank
returns-in-Line c =
    rw c.in-Line.is
