-- `writepages::write_pages` meets its contract: the rack's limits.
-- Assumes nothing.
use native.Mathlib.Omega.{arith}
use Rattle.model.specs.Values.{Limits}
use Rattle.model.specs.Calls as calls
use Rattle.answers.proofs.Questions.{by_limits}
use Rattle.memory.proofs.Headers.{rack_fits}
use Rattle.writepages.proofs.write_pages.Goals as goal

pub write_pages_in-requires : goal.write_pages_in-requires
write_pages_in-requires c =
    (rack_fits _ c.rack.ensures, omega arith)

pub returns : goal.returns
returns c =
    by_limits (λ (l : Limits). calls.write_pages l c.args.block.now c.args.out.now) c.rack.ensures c.write_pages_in.ensures
