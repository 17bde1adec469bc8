-- `viewer::read_file` meets its contract: the viewer's limits.
-- Assumes nothing.
use mathlib.Core.Path.{ap, sym}
use native.Mathlib.Omega.{arith}
use Rattle.model.specs.Image.{words_of}
use Rattle.model.specs.Values.{Limits}
use Rattle.model.specs.Calls as calls
use Rattle.answers.proofs.Questions.{by_limits}
use Rattle.viewer.proofs.Fits.{block_fits}
use Rattle.viewer.proofs.read_file.Goals as goal

pub read_file_in-requires : goal.read_file_in-requires
read_file_in-requires c =
    (block_fits _ c.viewer.ensures, omega arith, ap words_of (sym c.viewer.ensures))

pub returns : goal.returns
returns c =
    by_limits (λ (l : Limits). calls.read_file l c.args.file.now c.args.block.now) c.viewer.ensures c.read_file_in.ensures
