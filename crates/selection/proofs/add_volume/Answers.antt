use mathlib.Core.Path.{ap, ◌∙◌}
use Rattle.model.specs.Image.{column}
use Rattle.cells.proofs.Walks.{queue_room}
use Rattle.cells.proofs.Reached.{volume_linked, volume_below}
use Rattle.selection.proofs.Adding.{as_queue, going_start, going_mid, going_step, going_marks, going_added, volume_away}
use native.Mathlib.Omega.{arith}
use Rattle.selection.proofs.add_volume.Goals as goal

pub visit-end-requires : goal.visit-end-requires
visit-end-requires c =
    let mk = c.requires.2 in
    let few = c.requires.0.few in
    let q = as_queue mk in
    (omega (arith, mk.len_marks, c.requires.1), omega (arith, few, mk.fits), λ z. omega (arith, mk.len_order, queue_room q _ c.requires.1 z))

pub loop-head-init : goal.loop-head-init
loop-head-init c =
    λ s l m o k x. going_start _ _ _ _ _ (volume_linked c.requires.0 l) k l x

pub place_at-p-requires : goal.place_at-p-requires
place_at-p-requires c =
    let walk = c.loop-head.invariant _ c.requires.1 _ _ c.requires.2 c.visit-end.ensures in
    (omega (arith, c.requires.0.few, walk.queue.fits, c.loop-head-test.true), omega (arith, walk.queue.len_o, walk.queue.fits, c.loop-head-test.true))

pub overflow_add-head : goal.overflow_add-head
overflow_add-head c =
    omega (arith, c.requires.0.few, (c.loop-head.invariant _ c.requires.1 _ _ c.requires.2 c.visit-end.ensures).queue.fits)

pub along-a-requires : goal.along-a-requires
along-a-requires c =
    let held = ((c.loop-head.invariant _ c.requires.1 _ _ c.requires.2 c.visit-end.ensures).queue.queued _ c.loop-head-test.true).0 in
    (omega (arith, held, c.place_at-p.ensures, c.requires.0.size), omega arith)

pub visit-end-requires-in-loop-head : goal.visit-end-requires-in-loop-head
visit-end-requires-in-loop-head c =
    let next_is = c.along-a.ensures ∙ ap (column c.args.block.now 1) c.place_at-p.ensures in
    let walk = c.loop-head.invariant _ c.requires.1 _ _ c.requires.2 c.visit-end.ensures in
    let q = walk.queue in
    let few = c.requires.0.few in
    let x = c.requires.0.next_within _ (q.queued _ c.loop-head-test.true).0 in (
      omega (arith, x, next_is, q.len_m),
      omega (arith, q.fits, few),
      λ z. omega (arith, q.len_o, queue_room q _ (omega (arith, x, next_is)) z),
    )

pub along-b-requires : goal.along-b-requires
along-b-requires c =
    let held = ((c.loop-head.invariant _ c.requires.1 _ _ c.requires.2 c.visit-end.ensures).queue.queued _ c.loop-head-test.true).0 in
    (omega (arith, held, c.place_at-p.ensures, c.requires.0.size), omega arith)

pub visit-end-requires-in-loop-head-2 : goal.visit-end-requires-in-loop-head-2
visit-end-requires-in-loop-head-2 c =
    let block = c.args.block.now in
    let next_is = c.along-a.ensures ∙ ap (column block 1) c.place_at-p.ensures in
    let opposite_is = c.along-b.ensures ∙ ap (column block 2) c.place_at-p.ensures in
    let q =
    going_mid _ _ _ _ _ (volume_linked c.requires.0 c.requires.1) c.requires.2
    (c.loop-head.invariant _ c.requires.1 _ _ c.requires.2 c.visit-end.ensures) c.requires.0.next_within c.requires.0.opposite_within
    c.loop-head-test.true
    next_is c.visit-end-in-loop-head.ensures in
    let walk = c.loop-head.invariant _ c.requires.1 _ _ c.requires.2 c.visit-end.ensures in
    let few = c.requires.0.few in
    let x = c.requires.0.opposite_within _ (walk.queue.queued _ c.loop-head-test.true).0 in (
      omega (arith, x, opposite_is, q.len_m),
      omega (arith, q.fits, few),
      λ z. omega (arith, q.len_o, queue_room q _ (omega (arith, x, opposite_is)) z),
    )

pub loop-head-smaller : goal.loop-head-smaller
loop-head-smaller c =
    omega (arith, c.requires.0.few, (c.loop-head.invariant _ c.requires.1 _ _ c.requires.2 c.visit-end.ensures).queue.fits, c.loop-head-test.true)

pub loop-head-preserved : goal.loop-head-preserved
loop-head-preserved c =
    let block = c.args.block.now in
    let next_is = c.along-a.ensures ∙ ap (column block 1) c.place_at-p.ensures in
    let opposite_is = c.along-b.ensures ∙ ap (column block 2) c.place_at-p.ensures in
    λ s l m o k x. going_step _ _ _ _ _ (volume_linked c.requires.0 l) k (c.loop-head.invariant s l m o k x)
    c.requires.0.next_within c.requires.0.opposite_within c.loop-head-test.true next_is c.visit-end-in-loop-head.ensures opposite_is
    c.visit-end-in-loop-head-2.ensures

pub shape_of-order : goal.shape_of-order
shape_of-order c =
    (c.loop-head.invariant _ c.requires.1 _ _ c.requires.2 c.visit-end.ensures).same_order

pub shape_of-marks : goal.shape_of-marks
shape_of-marks c =
    (c.loop-head.invariant _ c.requires.1 _ _ c.requires.2 c.visit-end.ensures).same_marks

pub returns : goal.returns
returns c =
    let l = c.requires.0 in
    let v = volume_linked l c.requires.1 in
    record {
      marking = going_marks _ _ _ _ _ v c.requires.2 (c.loop-head.invariant _ c.requires.1 _ _ c.requires.2 c.visit-end.ensures)
          c.loop-head-test.false;
      added = going_added _ _ _ _ _ v c.requires.2 (c.loop-head.invariant _ c.requires.1 _ _ c.requires.2 c.visit-end.ensures) c.loop-head-test.false
          (volume_away l c.requires.1 c.requires.2 c.requires.3) (volume_below l c.requires.1);
    }
