use Rattle.text.proofs.Readings.{told_no, told_yes}
use Rattle.readpages.proofs.PageTexts.{firsts_none, firsts_more, firsts_end, firsts_not}
use native.Mathlib.Omega.{arith}
use Rattle.readpages.proofs.raw.firsts_right.Goals as goal

pub loop-k-init : goal.loop-k-init
loop-k-init c =
    (omega arith, firsts_none _ _ _)

pub first_right-requires : goal.first_right-requires
first_right-requires c =
    (c.loop-k-test.true, c.requires.0, c.requires.1, c.requires.2)

pub returns-then-not-first_right : goal.returns-then-not-first_right
returns-then-not-first_right c =
    firsts_not _ _ _ _ c.loop-k-test.true (told_no c.first_right.ensures c.if-not-first_right.true)

pub loop-k-preserved : goal.loop-k-preserved
loop-k-preserved c =
    (omega (arith, c.loop-k-test.true), firsts_more c.loop-k.invariant.1 (told_yes c.first_right.ensures c.if-not-first_right.false))

pub returns : goal.returns
returns c =
    firsts_end c.loop-k.invariant.1 c.loop-k-test.false
