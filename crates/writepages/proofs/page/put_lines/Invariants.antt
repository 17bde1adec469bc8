-- `writepages::page::put_lines` meets its contract: the lines below i are stored, up to past; each has 81 bytes.
-- Assumes nothing.
use Rattle.model.specs.Pages.{page_rows}
use Rattle.savefile.proofs.Pieces.{Placing}
use Rattle.writepages.proofs.PageParts.{lines_from}
use Rattle.writepages.proofs.page.put_lines.Given as goal

abbrev pub invariant-loop-i : goal.invariant-loop-i
invariant-loop-i l =
    Placing (lines_from l.block l.first) page_rows l.at l.initial.out l.out l.past l.i
