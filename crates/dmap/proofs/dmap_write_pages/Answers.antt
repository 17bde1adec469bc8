-- `dmap::dmap_write_pages` meets its contract.
-- Assumes nothing.
use Rattle.dmap.proofs.Through.{counted}
use Rattle.dmap.proofs.dmap_write_pages.Goals as goal

pub returns : goal.returns
returns c =
    counted c.tell_written.ensures c.write_pages.ensures
