use Rattle.balance.proofs.SurplusLaws.{filling_start, filling_next, filled}
use native.Mathlib.Omega.{arith}
use Rattle.balance.proofs.surplus.counts.Goals as goal

pub loop-i-init : goal.loop-i-init
loop-i-init c =
    filling_start _ _ _

pub count_part-requires : goal.count_part-requires
count_part-requires c =
    (c.requires, c.loop-i-test.true)

pub offset_bounds-c-i : goal.offset_bounds-c-i
offset_bounds-c-i c =
    omega arith

pub bounds-c-i : goal.bounds-c-i
bounds-c-i c =
    omega arith

pub loop-i-preserved : goal.loop-i-preserved
loop-i-preserved c =
    filling_next c.loop-i.invariant c.requires.few c.loop-i-test.true c.count_part.ensures.0

pub returns : goal.returns
returns c =
    record { size = c.loop-i.invariant.size; entry = filled c.loop-i.invariant c.loop-i-test.false }
