use lib.ListN.{length-set}
use Rattle.cells.proofs.Paths.{round, going_start, going_next, assign_none, assign_next, assign_last}
use native.Mathlib.Omega.{arith}
use Rattle.redirect.proofs.least.assign_face.Goals as goal

pub loop-p-init : goal.loop-p-init
loop-p-init c =
    let l = c.requires.0 in
    (going_start (round l.few l.next_within l.next_apart _ c.requires.1) c.requires.1, assign_none _ _)

pub offset_bounds-table-p : goal.offset_bounds-table-p
offset_bounds-table-p c =
    omega arith

pub bounds-table-p : goal.bounds-table-p
bounds-table-p c =
    omega arith

pub overflow_add-steps : goal.overflow_add-steps
overflow_add-steps c =
    let l = c.requires.0 in
    omega (arith, c.loop-p.invariant.0.less, (round l.few l.next_within l.next_apart c.args.start.0 c.requires.1).few)

pub field-p-requires : goal.field-p-requires
field-p-requires c =
    (omega (arith, c.loop-p.invariant.0.below, c.requires.0.size), omega arith)

pub shape_of-table-then-p-first : goal.shape_of-table-then-p-first
shape_of-table-then-p-first c =
    simp length-set c.loop-p.invariant.1.size

pub returns-then-p-first : goal.returns-then-p-first
returns-then-p-first c =
    let l = c.requires.0 in
    assign_last l.next_within (round l.few l.next_within l.next_apart _ c.requires.1) c.loop-p.invariant.0 c.loop-p.invariant.1
    (omega (arith, c.loop-p.invariant.0.below, c.requires.0.few, c.requires.2)) c.field-p.ensures c.if-p-first.true

pub loop-p-smaller : goal.loop-p-smaller
loop-p-smaller c =
    omega arith

pub loop-p-preserved : goal.loop-p-preserved
loop-p-preserved c =
    let l = c.requires.0 in
    let r = round l.few l.next_within l.next_apart _ c.requires.1 in (
      going_next l.next_within r c.loop-p.invariant.0 c.field-p.ensures c.if-p-first.false,
      assign_next l.next_within r c.loop-p.invariant.0 c.loop-p.invariant.1
          (omega (arith, c.loop-p.invariant.0.below, c.requires.0.few, c.requires.2)),
    )
