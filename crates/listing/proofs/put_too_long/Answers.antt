-- `listing::put_too_long` meets its contract: the text is stored at the start.
-- Assumes nothing.
use Rattle.model.specs.Text.{bytes}
use Rattle.listing.proofs.Copies.{printed}
use native.Mathlib.Omega.{arith}
use Rattle.listing.proofs.put_too_long.Goals as goal

pub returns : goal.returns
unfolding bytes
returns c =
    printed c.put_text.ensures (omega (arith, c.requires))
