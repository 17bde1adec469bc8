use mathlib.Core.Path.{refl, ◌∙◌}
use Rattle.sound.proofs.Passes.{going_none, going_no, going_more, going_end}
use Rattle.sound.proofs.Whole.{link_places, third_places, points_agreeing, finite_all}
use native.Mathlib.Omega.{arith}
use Rattle.sound.proofs.questions.points_agree.Goals as goal

pub loop-i-init : goal.loop-i-init
loop-i-init c =
    (going_none _ _, refl)

pub points_at-requires : goal.points_at-requires
points_at-requires c =
    let block = c.args.block.now in
    rw c.loop-i.invariant.1 (
      omega (arith, c.loop-i-test.true, c.loop-i.invariant.1),
      c.requires.1.few,
      c.requires.0,
      link_places _ c.requires.1 c.requires.3,
      third_places _ c.requires.1 c.requires.3 c.requires.4,
      finite_all block c.requires.2,
    )

pub returns-then-not-points_at : goal.returns-then-not-points_at
returns-then-not-points_at c =
    going_no c.loop-i.invariant.0 (omega (arith, c.loop-i-test.true, c.loop-i.invariant.1)) c.points_at.ensures c.if-not-points_at.true
    ∙ points_agreeing _ c.requires.1 c.requires.3 c.requires.4

pub loop-i-preserved : goal.loop-i-preserved
loop-i-preserved c = (
  going_more c.loop-i.invariant.0 (omega (arith, c.loop-i-test.true, c.loop-i.invariant.1)) c.points_at.ensures c.if-not-points_at.false,
  c.loop-i.invariant.1,
)

pub returns : goal.returns
returns c =
    going_end c.loop-i.invariant.0 (omega (arith, c.loop-i-test.false, c.loop-i.invariant.1)) ∙ points_agreeing _ c.requires.1 c.requires.3
    c.requires.4
