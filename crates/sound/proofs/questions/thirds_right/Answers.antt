use mathlib.Core.Path.{refl, ◌∙◌}
use Rattle.sound.proofs.Passes.{going_none, going_no, going_more, going_end}
use Rattle.sound.proofs.Whole.{link_places, thirds_are}
use native.Mathlib.Omega.{arith}
use borrow.Author.Rules.{rules}
use Rattle.sound.proofs.questions.thirds_right.Goals as goal

pub loop-i-init : goal.loop-i-init
loop-i-init c =
    (going_none _ _, refl)

pub third_at-requires : goal.third_at-requires
third_at-requires c = (
  search rules,
  omega (arith, c.loop-i.invariant.1, c.requires.1.few),
  search rules,
  rw c.loop-i.invariant.1 ((link_places _ c.requires.1 c.requires.2).next_lt _ (rw c.loop-i.invariant.1 at c.loop-i-test.true)),
)

pub returns-then-not-third_at : goal.returns-then-not-third_at
returns-then-not-third_at c =
    rw c.loop-i.invariant.1 at (going_no c.loop-i.invariant.0 c.loop-i-test.true c.third_at.ensures c.if-not-third_at.true) ∙ thirds_are _
    c.requires.1 c.requires.2

pub loop-i-preserved : goal.loop-i-preserved
loop-i-preserved c =
    (going_more c.loop-i.invariant.0 c.loop-i-test.true c.third_at.ensures c.if-not-third_at.false, c.loop-i.invariant.1)

pub returns : goal.returns
returns c =
    rw c.loop-i.invariant.1 at (going_end c.loop-i.invariant.0 c.loop-i-test.false) ∙ thirds_are _ c.requires.1 c.requires.2
