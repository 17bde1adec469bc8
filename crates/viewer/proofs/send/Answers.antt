-- `viewer::send` meets its contract: the viewer's limits.
-- Assumes nothing.
use native.Mathlib.Omega.{arith}
use Rattle.model.specs.Values.{Limits}
use Rattle.model.specs.Calls as calls
use Rattle.answers.proofs.Questions.{by_limits}
use Rattle.viewer.proofs.Fits.{block_fits, volume_fits}
use Rattle.viewer.proofs.send.Goals as goal

pub send_in-requires : goal.send_in-requires
send_in-requires c =
    (block_fits _ c.viewer.ensures, omega arith, volume_fits _ c.viewer.ensures, omega arith)

pub returns : goal.returns
returns c =
    by_limits (λ (l : Limits). calls.send l c.args.block.now c.args.to c.args.serial c.args.outbox.now) c.viewer.ensures c.send_in.ensures
