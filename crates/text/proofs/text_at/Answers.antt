use Rattle.text.proofs.Readings.{match_none, match_more, match_not, match_all}
use Rattle.text.proofs.text_at.Goals as goal

pub loop-i-init : goal.loop-i-init
loop-i-init c =
    match_none _ _ _

pub returns-then-s-at : goal.returns-then-s-at
returns-then-s-at c =
    match_not c.loop-i.invariant c.loop-i-test.true c.if-s-at.true

pub loop-i-preserved : goal.loop-i-preserved
loop-i-preserved c =
    match_more c.loop-i.invariant c.loop-i-test.true c.if-s-at.false

pub returns : goal.returns
returns c =
    match_all c.loop-i.invariant c.loop-i-test.false c.requires
