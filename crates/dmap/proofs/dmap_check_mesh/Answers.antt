-- `dmap::dmap_check_mesh` meets its contract.
-- Assumes nothing.
use Rattle.dmap.proofs.Through.{numbered}
use Rattle.dmap.proofs.dmap_check_mesh.Goals as goal

pub returns : goal.returns
returns c =
    numbered c.answer_number.ensures c.check_mesh.ensures
