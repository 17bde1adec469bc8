-- `commands::viewers::is_number` meets its contract. Assumes nothing.
use Rattle.commands.proofs.Viewing.{short_number, long_number}
use Rattle.commands.proofs.viewers.is_number.Goals as goal

pub returns-then-b-lt10 : goal.returns-then-b-lt10
returns-then-b-lt10 c =
    rw (short_number c.args.b c.args.behind c.if-b-lt10.true, ← c.ones.ensures) c.same.ensures

pub returns : goal.returns
returns c =
    rw (long_number c.args.b c.args.behind c.if-b-lt10.false, ← c.tens.ensures, ← c.ones-2.ensures) c.same-2.ensures
