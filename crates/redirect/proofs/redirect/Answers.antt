-- `redirect::redirect` meets its contract: the rack's limits.
-- Assumes nothing.
use native.Mathlib.Omega.{arith}
use Rattle.model.specs.Values.{Limits}
use Rattle.model.specs.Calls as calls
use Rattle.answers.proofs.Questions.{by_limits}
use Rattle.memory.proofs.Headers.{rack_fits}
use Rattle.redirect.proofs.redirect.Goals as goal

pub redirect_in-requires : goal.redirect_in-requires
redirect_in-requires c =
    let few = rack_fits _ c.rack.ensures in
    (few, omega arith, omega (arith, few), omega arith)

pub returns : goal.returns
returns c =
    by_limits (λ (l : Limits). calls.redirect l c.args.block.now c.args.message.now) c.rack.ensures c.redirect_in.ensures
