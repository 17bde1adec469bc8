use Rattle.readpages.proofs.Counting.{above_none, above_more, above_all}
use Rattle.readpages.proofs.counter.least_counter.Goals as goal

pub loop-i-init : goal.loop-i-init
loop-i-init c =
    above_none _ _ _

pub loop-i-preserved : goal.loop-i-preserved
loop-i-preserved c =
    above_more c.loop-i.invariant c.loop-i-test.true c.field-kind.ensures c.field-link.ensures c.above-c.ensures

pub returns : goal.returns
returns c =
    above_all c.loop-i.invariant c.loop-i-test.false
