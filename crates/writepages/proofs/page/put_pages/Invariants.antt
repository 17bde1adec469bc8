-- `writepages::page::put_pages` meets its contract: the pages below k are stored, up to past; each has 4,860 bytes.
-- Assumes nothing.
use Rattle.model.specs.Image.{block_in}
use Rattle.model.specs.Pages.{paged, page}
use Rattle.savefile.proofs.Pieces.{Placing}
use Rattle.writepages.proofs.page.put_pages.Given as goal

abbrev pub invariant-loop-k : goal.invariant-loop-k
invariant-loop-k l =
    Placing (page (paged (block_in l.block))) l.pages 0 l.initial.out l.out l.past l.k
