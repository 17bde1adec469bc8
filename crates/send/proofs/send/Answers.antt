-- `send::send` meets its contract: the rack's limits.
-- Assumes nothing.
use mathlib.Core.Path.{ap}
use native.Mathlib.Omega.{arith}
use Rattle.model.specs.Values.{Limits}
use Rattle.model.specs.Calls as calls
use Rattle.answers.proofs.Questions.{by_limits}
use Rattle.memory.proofs.Headers.{rack_fits}
use Rattle.send.proofs.send.Goals as goal

pub send_in-requires : goal.send_in-requires
send_in-requires c =
    let volume = ap (λ (l : Limits). l.volume_darts) c.rack.ensures in
    (rack_fits _ c.rack.ensures, omega arith, omega (arith, volume), omega arith)

pub returns : goal.returns
returns c =
    by_limits (λ (l : Limits). calls.send l c.args.block.now c.args.to c.args.serial c.args.outbox.now) c.rack.ensures c.send_in.ensures
