-- `dmap::dmap_redirect` meets its contract.
-- Assumes nothing.
use Rattle.dmap.proofs.Through.{numbered}
use Rattle.dmap.proofs.dmap_redirect.Goals as goal

pub returns : goal.returns
returns c =
    numbered c.answer_number.ensures c.redirect.ensures
