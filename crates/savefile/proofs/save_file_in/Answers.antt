-- `savefile::save_file_in` meets its contract: its arrays are clear, and as long as the limits ask.
-- Assumes nothing.
use mathlib.Core.Path.{refl}
use Rattle.laws.proofs.Lists.{getD_zeros}
use Rattle.savefile.proofs.save_file_in.Goals as goal

pub save_file_by-requires-clause-by_index : goal.save_file_by-requires-clause-by_index
save_file_by-requires-clause-by_index g c =
    (getD_zeros g.row.PLACES, refl)
