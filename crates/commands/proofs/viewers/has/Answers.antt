-- `commands::viewers::has` meets its contract. Assumes nothing.
use Rattle.commands.proofs.Viewing.{has_none, has_bit}
use native.Mathlib.Omega.{arith}
use Rattle.commands.proofs.viewers.has.Goals as goal

pub returns-then-number : goal.returns-then-number
returns-then-number c =
    has_none _ _ c.if-number.true

pub returns : goal.returns
returns c =
    has_bit c.args.viewers c.args.number (omega (arith, c.if-number.false))
