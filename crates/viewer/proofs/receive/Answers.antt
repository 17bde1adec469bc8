-- `viewer::receive` meets its contract: the viewer's limits.
-- Assumes nothing.
use mathlib.Core.Path.{refl}
use native.Mathlib.Omega.{arith}
use Rattle.model.specs.Values.{Limits}
use Rattle.model.specs.Calls as calls
use Rattle.answers.proofs.Questions.{by_limits}
use Rattle.viewer.proofs.Fits.{block_fits, volume_fits}
use Rattle.viewer.proofs.receive.Goals as goal

pub receive_in-requires : goal.receive_in-requires
receive_in-requires c =
    (block_fits _ c.viewer.ensures, omega arith, volume_fits _ c.viewer.ensures, omega arith, omega arith, refl)

pub returns : goal.returns
returns c =
    by_limits (λ (l : Limits). calls.receive l c.args.block.now c.args.message.now) c.viewer.ensures c.receive_in.ensures
