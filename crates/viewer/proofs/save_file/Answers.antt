-- `viewer::save_file` meets its contract: the viewer's limits.
-- Assumes nothing.
use native.Mathlib.Omega.{arith}
use Rattle.model.specs.Values.{Limits}
use Rattle.model.specs.Calls as calls
use Rattle.answers.proofs.Questions.{by_limits}
use Rattle.viewer.proofs.Fits.{block_fits}
use Rattle.viewer.proofs.save_file.Goals as goal

pub save_file_in-requires : goal.save_file_in-requires
save_file_in-requires c =
    (block_fits _ c.viewer.ensures, omega arith)

pub returns : goal.returns
returns c =
    by_limits (λ (l : Limits). calls.save_file l c.args.block.now c.args.out.now) c.viewer.ensures c.save_file_in.ensures
