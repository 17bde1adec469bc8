-- `codec::entry::read_first` meets its contract: each part by the layout of its first number.
-- Assumes nothing.
use Rattle.codec.proofs.Passing.{first_read}
use Rattle.codec.proofs.entry.read_first.Goals as goal

pub returns-in-Second : goal.returns-in-Second
returns-in-Second c =
    first_read c.args.s.now c.args.at c.in-Second.is c.read_label.ensures

pub returns-in-Third : goal.returns-in-Third
returns-in-Third c =
    first_read c.args.s.now c.args.at c.in-Third.is c.read_group.ensures
