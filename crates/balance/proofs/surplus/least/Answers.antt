use Rattle.balance.proofs.SurplusLaws.{lowest_start, lowest_new, lowest_same, lowest_end}
use Rattle.balance.proofs.surplus.least.Goals as goal
use Rattle.balance.proofs.surplus.least.Goals.{then-c-i, else-c-i}

pub loop-i-init : goal.loop-i-init
loop-i-init c =
    lowest_start _ _ c.requires.0

pub loop-i-preserved : goal.loop-i-preserved
loop-i-preserved c =
    elim c.if-c-i.branch [
      | then-c-i w ↦ rw w.low-is (lowest_new c.loop-i.invariant c.loop-i-test.true w.if-c-i.true)
      | else-c-i w ↦ rw w.low-is (lowest_same c.loop-i.invariant c.loop-i-test.true w.if-c-i.false)
    ]

pub returns : goal.returns
returns c =
    lowest_end c.loop-i.invariant c.loop-i-test.false
