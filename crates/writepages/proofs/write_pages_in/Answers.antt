-- `writepages::write_pages_in` meets its contract: its arrays are clear, and as long as the limits ask.
-- Assumes nothing.
use mathlib.Core.Path.{refl}
use Rattle.laws.proofs.Lists.{getD_zeros}
use Rattle.writepages.proofs.write_pages_in.Goals as goal

pub write_pages_by-requires-clause-by_index : goal.write_pages_by-requires-clause-by_index
write_pages_by-requires-clause-by_index g c =
    (getD_zeros g.row.PLACES, refl)
