-- `commands::viewers::goes_on` meets its contract. Assumes nothing.
use Rattle.commands.proofs.Viewing.{goes_on_short, goes_on_is}
use native.Mathlib.Omega.{arith}
use Rattle.commands.proofs.viewers.goes_on.Goals as goal

pub returns-then-text-at : goal.returns-then-text-at
returns-then-text-at c =
    goes_on_short c.args.text.now c.args.at c.args.b (omega (arith, c.size-n.ensures, c.if-text-at.true))

pub returns : goal.returns
returns c =
    goes_on_is c.args.text.now c.args.at c.args.b c.size-n.ensures c.is_number.ensures
