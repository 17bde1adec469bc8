use lib.ListN.{length-set}
use Rattle.model.specs.Cells.{ring}
use Rattle.cells.proofs.Paths.{round, going_start, going_next, assign_none, assign_next, assign_last}
use Rattle.cells.proofs.RingLaws.{step_within, step_apart}
use native.Mathlib.Omega.{arith}
use Rattle.cells.proofs.vertex.assign_ring.Goals as goal

pub loop-p-init : goal.loop-p-init
loop-p-init c =
    let l = c.requires.0 in (
      going_start
          (round l.few (step_within _ _ _ l.few l.next_within l.next_apart l.opposite_within l.opposite_apart)
          (step_apart _ _ _ l.few l.next_within l.next_apart l.opposite_within l.opposite_apart) _ c.requires.1)
          c.requires.1,
      assign_none _ _,
    )

pub offset_bounds-numbers-p : goal.offset_bounds-numbers-p
offset_bounds-numbers-p c =
    omega arith

pub bounds-numbers-p : goal.bounds-numbers-p
bounds-numbers-p c =
    omega arith

pub overflow_add-steps : goal.overflow_add-steps
overflow_add-steps c =
    let l = c.requires.0 in
    let w = step_within _ _ _ l.few l.next_within l.next_apart l.opposite_within l.opposite_apart in
    let a = step_apart _ _ _ l.few l.next_within l.next_apart l.opposite_within l.opposite_apart in
    omega (arith, c.loop-p.invariant.0.less, (round l.few w a c.args.start.0 c.requires.1).few)

pub ring_step-p-requires : goal.ring_step-p-requires
ring_step-p-requires c =
    (c.requires.0, c.loop-p.invariant.0.below)

pub shape_of-numbers-then-p-first : goal.shape_of-numbers-then-p-first
shape_of-numbers-then-p-first c =
    simp length-set c.loop-p.invariant.1.size

pub returns-then-p-first : goal.returns-then-p-first
unfolding ring
returns-then-p-first c =
    let l = c.requires.0 in
    let w = step_within _ _ _ l.few l.next_within l.next_apart l.opposite_within l.opposite_apart in
    assign_last w
    (round l.few w (step_apart _ _ _ l.few l.next_within l.next_apart l.opposite_within l.opposite_apart) _
    c.requires.1) c.loop-p.invariant.0 c.loop-p.invariant.1 (omega (arith, c.loop-p.invariant.0.below, c.requires.2)) c.ring_step-p.ensures
    c.if-p-first.true

pub loop-p-smaller : goal.loop-p-smaller
loop-p-smaller c =
    omega arith

pub loop-p-preserved : goal.loop-p-preserved
loop-p-preserved c =
    let l = c.requires.0 in
    let w = step_within _ _ _ l.few l.next_within l.next_apart l.opposite_within l.opposite_apart in
    let r = round l.few w (step_apart _ _ _ l.few l.next_within l.next_apart l.opposite_within l.opposite_apart) _ c.requires.1 in (
      going_next w r c.loop-p.invariant.0 c.ring_step-p.ensures c.if-p-first.false,
      assign_next w r c.loop-p.invariant.0 c.loop-p.invariant.1 (omega (arith, c.loop-p.invariant.0.below, c.requires.2)),
    )
