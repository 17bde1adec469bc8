-- `groups::group_count` meets its contract. The leading zeros leave the bit length, whose entry of the table the definition takes too. Assumes nothing.
use native.Mathlib.Omega.{arith}
use lib.Count.{leading_le}
use Rattle.model.specs.Layouts.{group_counts, group_count}
use Rattle.groups.proofs.Counts.{bit_length}
use Rattle.groups.proofs.group_count.Goals as goal

pub overflow_sub-n : goal.overflow_sub-n
overflow_sub-n c =
    leading_le 32 c.args.v

pub returns : goal.returns
unfolding group_counts group_count
returns c =
    rw (← bit_length c.args.v (omega arith)) c.from.ensures
