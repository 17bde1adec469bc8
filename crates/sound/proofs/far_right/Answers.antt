use mathlib.Core.Path.{refl, sym}
use native.Mathlib.Omega.{arith}
use Rattle.sound.proofs.Passes.{going_none, going_no, going_more, going_end, gather_none, gather_more, gather_end}
use Rattle.sound.proofs.far_right.Goals as goal

pub loop-i-init : goal.loop-i-init
loop-i-init c =
    (going_none _ _, gather_none _ _ _ c.requires.3, refl)

pub shape_of-keys-then-not-far_at : goal.shape_of-keys-then-not-far_at
shape_of-keys-then-not-far_at c =
    c.loop-i.invariant.2

pub returns-then-not-far_at : goal.returns-then-not-far_at
returns-then-not-far_at c =
    sym (going_no c.loop-i.invariant.0 c.loop-i-test.true c.far_at.ensures c.if-not-far_at.true)

pub loop-i-preserved : goal.loop-i-preserved
loop-i-preserved c = (
  going_more c.loop-i.invariant.0 c.loop-i-test.true c.far_at.ensures c.if-not-far_at.false,
  gather_more c.loop-i.invariant.1 c.loop-i-test.true c.put_label-c.ensures,
  omega (arith, c.put_label-c.auto.keys, c.loop-i.invariant.2),
)

pub shape_of-keys : goal.shape_of-keys
shape_of-keys c =
    c.loop-i.invariant.2

pub returns : goal.returns
returns c =
    let labels = gather_end c.loop-i.invariant.1 c.loop-i-test.false in
    (sym (going_end c.loop-i.invariant.0 c.loop-i-test.false), labels.0, labels.1)
