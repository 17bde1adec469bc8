use mathlib.Core.Path.{refl, ◌∙◌}
use Rattle.sound.proofs.Passes.{going_none, going_no, going_more}
use Rattle.sound.proofs.questions.own_labels.Goals as goal

pub loop-i-init : goal.loop-i-init
loop-i-init c =
    (going_none _ _, refl, refl)

pub returns-then-not-label_right : goal.returns-then-not-label_right
returns-then-not-label_right c =
    going_no c.loop-i.invariant.0 c.loop-i-test.true
    (c.label_right.ensures ∙ rw (c.field-k.ensures, c.field-l.ensures, c.loop-i.invariant.1, c.loop-i.invariant.2) refl) c.if-not-label_right.true

pub loop-i-preserved : goal.loop-i-preserved
loop-i-preserved c = (
  going_more c.loop-i.invariant.0 c.loop-i-test.true
      (c.label_right.ensures ∙ rw (c.field-k.ensures, c.field-l.ensures, c.loop-i.invariant.1, c.loop-i.invariant.2) refl) c.if-not-label_right.false,
  c.loop-i.invariant.1,
  c.loop-i.invariant.2,
)
