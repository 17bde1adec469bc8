-- `groups::read_group` meets its contract. One group is below 2^32 in any case; several are read below it. Assumes nothing.
use Rattle.model.specs.Layouts.{group}
use Rattle.groups.proofs.Reading.{group_one}
use Rattle.groups.proofs.read_group.Goals as goal

pub returns-then-b-lt128 : goal.returns-then-b-lt128
returns-then-b-lt128 c =
    group_one _ _ _ c.if-at-s.true c.from-b.ensures c.if-b-lt128.true

pub returns : goal.returns
unfolding group
returns c =
    c.read_below.ensures
