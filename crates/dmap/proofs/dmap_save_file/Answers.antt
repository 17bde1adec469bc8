-- `dmap::dmap_save_file` meets its contract.
-- Assumes nothing.
use Rattle.dmap.proofs.Through.{counted}
use Rattle.dmap.proofs.dmap_save_file.Goals as goal

pub returns : goal.returns
returns c =
    counted c.tell_written.ensures c.save_file.ensures
