-- `viewer::redirect` meets its contract: the viewer's limits.
-- Assumes nothing.
use native.Mathlib.Omega.{arith}
use Rattle.model.specs.Values.{Limits}
use Rattle.model.specs.Calls as calls
use Rattle.answers.proofs.Questions.{by_limits}
use Rattle.viewer.proofs.Fits.{block_fits}
use Rattle.viewer.proofs.redirect.Goals as goal

pub redirect_in-requires : goal.redirect_in-requires
redirect_in-requires c =
    let few = block_fits _ c.viewer.ensures in
    (few, omega arith, omega (arith, few), omega arith)

pub returns : goal.returns
returns c =
    by_limits (λ (l : Limits). calls.redirect l c.args.block.now c.args.message.now) c.viewer.ensures c.redirect_in.ensures
