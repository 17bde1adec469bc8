-- `dmap::dmap_viewer_send` meets its contract.
-- Assumes nothing.
use Rattle.dmap.proofs.Through.{counted}
use Rattle.dmap.proofs.dmap_viewer_send.Goals as goal

pub returns : goal.returns
returns c =
    counted c.tell_written.ensures c.send.ensures
