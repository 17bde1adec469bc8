-- `viewer::release` meets its contract: the viewer's limits.
-- Assumes nothing.
use native.Mathlib.Omega.{arith}
use Rattle.model.specs.Values.{Limits}
use Rattle.model.specs.Calls as calls
use Rattle.answers.proofs.Questions.{by_limits}
use Rattle.viewer.proofs.Fits.{block_fits, volume_fits}
use Rattle.viewer.proofs.release.Goals as goal

pub release_in-requires : goal.release_in-requires
release_in-requires c =
    (block_fits _ c.viewer.ensures, omega arith, volume_fits _ c.viewer.ensures, omega arith)

pub returns : goal.returns
returns c =
    by_limits (λ (l : Limits). calls.release l c.args.block.now c.args.to c.args.serial) c.viewer.ensures c.release_in.ensures
