use Rattle.release.proofs.Labelling.{turn, walking_start, across, walking_on, walking_end, same_end}
use native.Mathlib.Omega.{arith}
use Rattle.release.proofs.label.label_face.Goals as goal

pub bounds-block-0 : goal.bounds-block-0
bounds-block-0 c =
    omega arith

pub loop-p-init : goal.loop-p-init
loop-p-init c =
    walking_start c.requires.0 c.args.to c.args.number c.args.start.0 c.requires.1 c.requires.2 c.requires.3

pub field-q-requires : goal.field-q-requires
field-q-requires c =
    (omega (arith, c.loop-p.invariant.going.below, c.loop-p.invariant.same.size, c.requires.0.size), omega arith)

pub put_label-requires : goal.put_label-requires
put_label-requires c =
    let to = c.args.to in
    let number = c.args.number in
    let first = c.args.start.0 in
    let over = (across c.requires.0 to number first c.requires.1 c.loop-p.invariant).0 in (
      omega (arith, c.field-q.ensures, over, c.loop-p.invariant.same.size, c.requires.0.size),
      c.requires.4,
      c.requires.0.number_small,
      c.requires.5,
      omega (arith, c.loop-p.invariant.going.less, (turn c.requires.0 to number first c.requires.1).few),
    )

pub overflow_add-i : goal.overflow_add-i
overflow_add-i c =
    omega (arith, c.loop-p.invariant.going.less, (turn c.requires.0 c.args.to c.args.number c.args.start.0 c.requires.1).few)

pub field-p-requires : goal.field-p-requires
field-p-requires c =
    let to = c.args.to in
    let number = c.args.number in
    let first = c.args.start.0 in
    let same = same_end c.requires.0 to number first c.requires.1 c.loop-p.invariant c.field-q.ensures c.put_label.ensures in
    (omega (arith, c.loop-p.invariant.going.below, same.size, c.requires.0.size), omega arith)

pub shape_of-block-then-p-first : goal.shape_of-block-then-p-first
shape_of-block-then-p-first c =
    (same_end c.requires.0 c.args.to c.args.number c.args.start.0 c.requires.1 c.loop-p.invariant c.field-q.ensures c.put_label.ensures).size

pub returns-then-p-first : goal.returns-then-p-first
returns-then-p-first c =
    let to = c.args.to in
    let number = c.args.number in
    let first = c.args.start.0 in
    record {
      same = same_end c.requires.0 to number first c.requires.1 c.loop-p.invariant c.field-q.ensures c.put_label.ensures;
      labelled = walking_end c.requires.0 to number first c.requires.1 c.loop-p.invariant c.field-q.ensures c.put_label.ensures c.field-p.ensures
          c.if-p-first.true;
    }

pub loop-p-smaller : goal.loop-p-smaller
loop-p-smaller c =
    omega arith

pub loop-p-preserved : goal.loop-p-preserved
loop-p-preserved c =
    let to = c.args.to in
    let number = c.args.number in
    let first = c.args.start.0 in
    walking_on c.requires.0 to number first c.requires.1 c.loop-p.invariant c.field-q.ensures c.put_label.ensures c.field-p.ensures c.if-p-first.false
