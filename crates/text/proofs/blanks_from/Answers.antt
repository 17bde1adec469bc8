use Rattle.text.proofs.Readings.{past_none, past_more}
use mathlib.Core.Path.{◌≡◌}
use native.Mathlib.Omega.{arith}
use Rattle.text.proofs.blanks_from.Goals as goal

pub loop-i-init : goal.loop-i-init
loop-i-init c =
    (omega arith, past_none _ _)

pub returns-then-s-from-ne-BLANK : goal.returns-then-s-from-ne-BLANK
returns-then-s-from-ne-BLANK c =
    record { within = c.loop-i.invariant.0; before = c.loop-i.invariant.1.before; here = λ h. c.if-s-from-ne-BLANK.true }

pub loop-i-preserved : goal.loop-i-preserved
loop-i-preserved c =
    (omega arith, past_more c.loop-i.invariant.1 c.if-s-from-ne-BLANK.false)

pub returns : goal.returns
returns c =
    let n : c.loop-i.i ≡ c.args.n = omega (arith, c.loop-i.invariant.0, c.loop-i-test.false) in
    record { within = omega arith; before = rw n at c.loop-i.invariant.1.before; here = λ h. absurd (omega (arith, h)) }
