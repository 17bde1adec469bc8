use mathlib.Core.Path.{refl, ◌∙◌}
use Rattle.columns.proofs.Points.{finite_is}
use Rattle.sound.proofs.Passes.{going_none, going_no, going_more, going_end}
use native.Mathlib.Omega.{arith}
use Rattle.sound.proofs.questions.coordinates_finite.Goals as goal

pub loop-i-init : goal.loop-i-init
loop-i-init c =
    (going_none _ _, refl)

pub returns-then-not-finite_at : goal.returns-then-not-finite_at
returns-then-not-finite_at c =
    going_no c.loop-i.invariant.0 (omega (arith, c.loop-i-test.true, c.loop-i.invariant.1)) c.finite_at.ensures c.if-not-finite_at.true ∙ finite_is
    c.args.block.now

pub loop-i-preserved : goal.loop-i-preserved
loop-i-preserved c = (
  going_more c.loop-i.invariant.0 (omega (arith, c.loop-i-test.true, c.loop-i.invariant.1)) c.finite_at.ensures c.if-not-finite_at.false,
  c.loop-i.invariant.1,
)

pub returns : goal.returns
returns c =
    going_end c.loop-i.invariant.0 (omega (arith, c.loop-i-test.false, c.loop-i.invariant.1)) ∙ finite_is c.args.block.now
