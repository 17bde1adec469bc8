-- `groups::put_group` meets its contract. Assumes nothing.
use native.Mathlib.Omega.{arith}
use Rattle.model.specs.Layouts.{group_below, group}
use Rattle.groups.proofs.put_group.Goals as goal

pub put_number-requires : goal.put_number-requires
unfolding group group_below
put_number-requires c =
    record { v_bound = omega arith; v_bound_2 = rw c.from.ensures c.requires }

pub returns : goal.returns
unfolding group group_below
returns c =
    rw c.from.ensures at c.put_number.ensures
