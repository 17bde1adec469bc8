use mathlib.Core.Path.{refl}
use native.Mathlib.Omega.{arith}
use Rattle.sound.proofs.Passes.{gather_none, gather_more}
use Rattle.sound.proofs.questions.gather.Goals as goal

pub loop-i-init : goal.loop-i-init
loop-i-init c =
    (gather_none _ _ _ c.requires.2, refl)

pub loop-i-preserved : goal.loop-i-preserved
loop-i-preserved c =
    (gather_more c.loop-i.invariant.0 c.loop-i-test.true c.put_label-c.ensures, omega (arith, c.put_label-c.auto.keys, c.loop-i.invariant.1))
