-- `release::let_go` meets its contract: what the questions left serves labelling, and what that left taking out. Assumes nothing.
use Rattle.release.proofs.LettingGo.{count_left, sewing, labels_fit, bounded, rest_zero, all_gone}
use native.Mathlib.Omega.{arith}
use Rattle.release.proofs.let_go.Goals as goal

pub bounds-block-1 : goal.bounds-block-1
bounds-block-1 c =
    omega (arith, (sewing _ c.requires.block_value c.args.to c.requires.may_go.serial c.requires.may_go.departs).size)

pub overflow_add-counter : goal.overflow_add-counter
overflow_add-counter c =
    omega arith

pub label_faces-requires : goal.label_faces-requires
label_faces-requires c =
    let to = c.args.to in (
      sewing _ c.requires.block_value to c.requires.may_go.serial c.requires.may_go.departs,
      c.requires.may_go.departs.survey.order,
      c.requires.may_go.departs.to_block,
      labels_fit _ c.requires.block_value to c.requires.may_go.serial c.requires.may_go.departs,
    )

pub remove-requires : goal.remove-requires
remove-requires c =
    let to = c.args.to in
    let count = count_left _ c.requires.block_value to c.requires.may_go.serial c.requires.may_go.departs c.label_faces.ensures in
    record {
      bounded = (
        bounded _ c.requires.block_value to c.requires.may_go.serial c.requires.may_go.departs c.label_faces.ensures,
        omega (arith, count, c.requires.may_go.departs.survey.marks_size),
        omega (arith, count, c.requires.block_in_bounds),
      );
      block_value = rest_zero _ c.requires.block_value to c.requires.may_go.serial c.requires.may_go.departs c.label_faces.ensures;
    }

pub returns : goal.returns
returns c =
    all_gone _ c.requires.block_value c.args.to c.requires.may_go.serial c.requires.may_go.departs c.label_faces.ensures c.remove.ensures
