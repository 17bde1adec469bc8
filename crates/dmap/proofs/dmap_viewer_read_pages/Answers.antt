-- `dmap::dmap_viewer_read_pages` meets its contract.
-- Assumes nothing.
use Rattle.dmap.proofs.Through.{numbered}
use Rattle.dmap.proofs.dmap_viewer_read_pages.Goals as goal

pub returns : goal.returns
returns c =
    numbered c.answer_number.ensures c.read_pages.ensures
