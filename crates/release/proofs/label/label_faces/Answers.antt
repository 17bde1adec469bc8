use mathlib.Core.Path.{sym, ◌∙◌}
use Rattle.release.proofs.Labelling.{facing_start, facing_end, sewing_stays, starting, face_skip, number_fits, face_one, one, order_few}
use native.Mathlib.Omega.{arith}
use Rattle.release.proofs.label.label_faces.Goals as goal

pub loop-f-init : goal.loop-f-init
loop-f-init c =
    facing_start c.args.block.now c.args.marks.now c.args.to

pub offset_bounds-order-i : goal.offset_bounds-order-i
offset_bounds-order-i c =
    omega (arith, (starting c.requires.0 c.requires.1 c.loop-f.f c.loop-f-test.true).index_lt, (order_few c.requires.0 c.requires.1).0)

pub bounds-order-i : goal.bounds-order-i
bounds-order-i c =
    omega
    (arith, (starting c.requires.0 c.requires.1 c.loop-f.f c.loop-f-test.true).index_lt, (order_few c.requires.0 c.requires.1).0, c.requires.1.out_size)

pub field-requires : goal.field-requires
field-requires c = (
  omega (arith, (starting c.requires.0 c.requires.1 c.loop-f.f c.loop-f-test.true).below, c.loop-f.invariant.same.size, c.requires.0.size),
  omega arith,
)

pub loop-f-preserved-then-not-is_sewn : goal.loop-f-preserved-then-not-is_sewn
loop-f-preserved-then-not-is_sewn c =
    face_skip c.requires.0 c.requires.1 c.loop-f-test.true c.loop-f.invariant c.field.ensures (sym c.is_sewn.ensures ∙ c.if-not-is_sewn.true)

pub label_face-requires : goal.label_face-requires
label_face-requires c =
    let s = starting c.requires.0 c.requires.1 c.loop-f.f c.loop-f-test.true in (
      sewing_stays c.requires.0 c.loop-f.invariant.same,
      s.below,
      s.inside,
      sym c.field.ensures ∙ one c.requires.0 c.requires.1 c.loop-f-test.true c.loop-f.invariant c.field.ensures
          (sym c.is_sewn.ensures ∙ c.if-not-is_sewn.false),
      c.requires.2,
      omega
          (arith, number_fits c.requires.0 c.requires.1 c.loop-f-test.true c.loop-f.invariant c.field.ensures (sym c.is_sewn.ensures ∙ c.if-not-is_sewn.false), c.requires.3),
    )

pub loop-f-preserved : goal.loop-f-preserved
loop-f-preserved c =
    face_one c.requires.0 c.requires.1 c.loop-f-test.true c.loop-f.invariant c.field.ensures (sym c.is_sewn.ensures ∙ c.if-not-is_sewn.false)
    c.label_face.ensures.same c.label_face.ensures.labelled

pub returns : goal.returns
returns c =
    facing_end c.loop-f.invariant (omega (arith, c.loop-f-test.false, c.requires.1.count_is))
