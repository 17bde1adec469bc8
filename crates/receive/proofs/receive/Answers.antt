-- `receive::receive` meets its contract: the rack's limits.
-- Assumes nothing.
use mathlib.Core.Path.{refl, ap}
use native.Mathlib.Omega.{arith}
use Rattle.model.specs.Values.{Limits}
use Rattle.model.specs.Calls as calls
use Rattle.answers.proofs.Questions.{by_limits}
use Rattle.memory.proofs.Headers.{rack_fits}
use Rattle.receive.proofs.receive.Goals as goal

pub receive_in-requires : goal.receive_in-requires
receive_in-requires c =
    let volume = ap (λ (l : Limits). l.volume_darts) c.rack.ensures in
    (rack_fits _ c.rack.ensures, omega arith, omega (arith, volume), omega arith, omega arith, refl)

pub returns : goal.returns
returns c =
    by_limits (λ (l : Limits). calls.receive l c.args.block.now c.args.message.now) c.rack.ensures c.receive_in.ensures
