-- `writepages::line::put_blank` meets its contract: 80 blanks and a line feed.
-- Assumes nothing.
use Rattle.model.specs.Pages.{blank_line}
use Rattle.groups.proofs.Writing.{stored_then}
use Rattle.writepages.proofs.line.put_blank.Goals as goal

pub returns : goal.returns
unfolding blank_line
returns c =
    stored_then c.put_blanks-past_blanks.ensures c.put_byte.ensures
