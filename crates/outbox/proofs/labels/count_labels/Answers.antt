use mathlib.Core.Path.{◌∙◌, sym}
use Prim.Native.Nat.{◌<◌}
use borrow.Author.Tests.{eqb-true, eqb-false}
use lib.ListN.{get_or}
use Rattle.model.specs.Image.{label_in}
use Rattle.theory.proofs.LayoutLengths.{label_short}
use Rattle.outbox.proofs.SharesLaws.{shares_start, shares_skip, shares_step, shares_few, shares_all}
use native.Mathlib.Omega.{arith}
use Rattle.outbox.proofs.labels.count_labels.Goals as goal

pub loop-f-init : goal.loop-f-init
loop-f-init c =
    (omega arith, shares_start _ _ _ _ _ c.requires.labels_value.0 c.requires.labels_value.1)

pub loop-f-preserved-then-not-is_critical : goal.loop-f-preserved-then-not-is_critical
loop-f-preserved-then-not-is_critical c = (
  omega (arith, c.loop-f-test.true),
  shares_skip c.loop-f.invariant.1 c.field-word.ensures (eqb-false _ 2 (sym c.is_critical.ensures ∙ c.if-not-is_critical.true)),
)

pub loop-f-preserved : goal.loop-f-preserved
loop-f-preserved c =
    let starts = c.args.starts.now in
    let small = c.requires.darts_listed.0.other_small (get_or starts c.loop-f.f 0) (c.requires.darts_listed.1.below c.loop-f.f c.loop-f-test.true) in (
      omega (arith, c.loop-f-test.true),
      shares_all c.loop-f.labels c.loop-f.bytes c.label_size-size.result
          (shares_step c.loop-f.invariant.1 c.field-word.ensures (eqb-true _ 2 (sym c.is_critical.ensures ∙ c.if-not-is_critical.false)) (omega (arith, c.field-word.ensures, small))
          c.face_end-end.ensures c.least_code-code.ensures c.label_size-size.ensures) c.other_of.ensures c.add_face.ensures.0 c.add_face.ensures.1,
    )

pub add_face-requires : goal.add_face-requires
add_face-requires c =
    let starts = c.args.starts.now in
    let few = shares_few c.loop-f.invariant.1 (omega (arith, c.loop-f.invariant.0, c.requires.darts_listed.1.few)) in
    let small = c.requires.darts_listed.0.other_small (get_or starts c.loop-f.f 0) (c.requires.darts_listed.1.below c.loop-f.f c.loop-f-test.true) in
    let k : c.other_of.result < 16 = omega (arith, c.other_of.ensures, c.field-word.ensures, small) in
    record {
      labels_len = (few.labels_size, few.bytes_size, k);
      k_bound = (
        omega (arith, few.labels_few _ k),
        omega (arith, few.bytes_few _ k),
        omega (arith, c.label_size-size.ensures, label_short (label_in c.least_code-code.result)),
      );
    }
