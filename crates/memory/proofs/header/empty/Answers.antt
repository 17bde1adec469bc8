-- `memory::header::empty` meets its contract: the rack's limits.
-- Assumes nothing.
use Rattle.model.specs.Values.{Limits}
use Rattle.model.specs.Calls as calls
use Rattle.answers.proofs.Questions.{by_limits}
use Rattle.memory.proofs.Headers.{rack_fits}
use Rattle.memory.proofs.header.empty.Goals as goal

pub empty_by-requires : goal.empty_by-requires
empty_by-requires c =
    rack_fits _ c.rack.ensures

pub returns : goal.returns
returns c =
    by_limits (λ (l : Limits). calls.empty l c.args.number c.args.block.now) c.rack.ensures c.empty_by.ensures
