use Rattle.text.proofs.Readings.{blank_none, blank_more, blank_all}
use native.Mathlib.Omega.{arith}
use Rattle.text.proofs.blank.Goals as goal

pub loop-i-init : goal.loop-i-init
loop-i-init c =
    (omega arith, blank_none _ _)

pub loop-i-preserved : goal.loop-i-preserved
loop-i-preserved c =
    (omega arith, blank_more _ _ c.loop-i.invariant.1)

pub returns : goal.returns
returns c =
    blank_all _ _ _ c.loop-i.invariant.1 (omega (arith, c.loop-i.invariant.0, c.loop-i-test.false)) c.requires
