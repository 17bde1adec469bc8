-- `groups::put_serial` meets its contract. A serial is put as a number. Assumes nothing.
use Rattle.model.specs.Layouts.{group_below, serial}
use Rattle.groups.proofs.put_serial.Goals as goal

pub put_number-requires : goal.put_number-requires
unfolding serial group_below
put_number-requires c =
    record { v_bound = c.requires.v_lt_serial_bound; v_bound_2 = c.requires.v_bound }

pub returns : goal.returns
unfolding serial group_below
returns c =
    c.put_number.ensures
