-- `groups::read_serial` meets its contract. A serial is laid out as a number. Assumes nothing.
use Rattle.model.specs.Layouts.{group, serial}
use Rattle.groups.proofs.read_serial.Goals as goal

pub returns : goal.returns
unfolding group serial
returns c =
    c.read_group.ensures
