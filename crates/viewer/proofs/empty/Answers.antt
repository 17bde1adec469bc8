-- `viewer::empty` meets its contract: the viewer's limits.
-- Assumes nothing.
use Rattle.model.specs.Values.{Limits}
use Rattle.model.specs.Calls as calls
use Rattle.answers.proofs.Questions.{by_limits}
use Rattle.memory.proofs.Headers.{viewer_fits}
use Rattle.viewer.proofs.empty.Goals as goal

pub empty_by-requires : goal.empty_by-requires
empty_by-requires c =
    viewer_fits _ c.viewer.ensures

pub returns : goal.returns
returns c =
    by_limits (λ (l : Limits). calls.empty l c.args.number c.args.block.now) c.viewer.ensures c.empty_by.ensures
