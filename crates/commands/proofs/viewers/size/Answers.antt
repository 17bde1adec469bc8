-- `commands::viewers::size` meets its contract. Assumes nothing.
use mathlib.Core.Path.{sym, ap}
use lib.ListN.{length}
use Rattle.commands.proofs.Viewing.{short_number, long_number}
use Rattle.commands.proofs.viewers.size.Goals as goal

pub returns-then-b-lt10 : goal.returns-then-b-lt10
returns-then-b-lt10 c =
    sym (ap length (short_number _ 32 c.if-b-lt10.true))

pub returns : goal.returns
returns c =
    sym (ap length (long_number _ 32 c.if-b-lt10.false))
