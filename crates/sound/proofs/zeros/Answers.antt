use Rattle.sound.proofs.Passes.{zeroing_none, zeroing_more, zeroing_end}
use native.Mathlib.Omega.{arith}
use Rattle.sound.proofs.zeros.Goals as goal

pub loop-i-init : goal.loop-i-init
loop-i-init c =
    (omega arith, zeroing_none _ _)

pub loop-i-preserved : goal.loop-i-preserved
loop-i-preserved c =
    (omega arith, zeroing_more _ _ c.loop-i.invariant.1)

pub returns : goal.returns
returns c =
    zeroing_end _ _ c.loop-i.invariant.1 c.loop-i-test.false c.loop-i.invariant.0
