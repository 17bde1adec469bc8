-- `commands::viewers::bit` meets its contract. Assumes nothing.
use Rattle.commands.proofs.Viewing.{bit_small}
use native.Mathlib.Omega.{arith}
use Rattle.commands.proofs.viewers.bit.Goals as goal

pub returns : goal.returns
returns c =
    omega (arith, bit_small c.args.b c.requires)
