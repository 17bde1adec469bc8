use Prim.Native.Nat.{◌<◌}
use mathlib.Core.Path.{refl, ◌∙◌}
use Rattle.cells.proofs.Walks.{walk_start, walk_step, walk_mid, walk_end, walk_count, walk_listed, queue_room, visited_lengths}
use Rattle.cells.proofs.Reached.{volume_linked}
use native.Mathlib.Omega.{arith}
use Rattle.cells.proofs.walk.volume.Goals as goal

pub visit-tail-requires : goal.visit-tail-requires
visit-tail-requires c =
    (omega (arith, c.requires.1, c.requires.3), omega arith, λ e. omega (arith, c.requires.1, c.requires.2))

pub loop-head-init : goal.loop-head-init
loop-head-init c = (
  walk_start _ _ _ _ _ (volume_linked c.requires.0 c.requires.1) c.requires.3 c.requires.2 c.requires.4 c.requires.1
      c.visit-tail.ensures,
  refl,
  refl,
)

pub offset_bounds-order-head : goal.offset_bounds-order-head
offset_bounds-order-head c =
    omega (arith, c.loop-head.invariant.0.queue.fits, c.requires.0.few)

pub bounds-order-head : goal.bounds-order-head
bounds-order-head c =
    omega (arith, c.loop-head.invariant.0.queue.fits, c.loop-head.invariant.0.queue.len_o)

pub overflow_add-head : goal.overflow_add-head
overflow_add-head c =
    omega (arith, c.loop-head.invariant.0.queue.fits, c.requires.0.few)

pub field-a-requires : goal.field-a-requires
field-a-requires c =
    (omega (arith, (c.loop-head.invariant.0.queue.queued _ c.loop-head-test.true).0, c.requires.0.size), omega arith)

pub visit-tail-requires-in-loop-head : goal.visit-tail-requires-in-loop-head
visit-tail-requires-in-loop-head c =
    let q = c.loop-head.invariant.0.queue in
    let x = c.requires.0.next_within _ (q.queued _ c.loop-head-test.true).0 in
    let below : c.field-a.result < c.args.n = omega (arith, x, c.field-a.ensures) in
    (omega (arith, below, q.len_m), omega (arith, q.fits, c.requires.0.few), λ z. omega (arith, queue_room q _ below z, q.len_o))

pub field-b-requires : goal.field-b-requires
field-b-requires c =
    (omega (arith, (c.loop-head.invariant.0.queue.queued _ c.loop-head-test.true).0, c.requires.0.size), omega arith)

pub visit-tail-requires-in-loop-head-2 : goal.visit-tail-requires-in-loop-head-2
visit-tail-requires-in-loop-head-2 c =
    let q =
    walk_mid _ _ _ _ _ (volume_linked c.requires.0 c.requires.1) c.loop-head.invariant.0
    c.requires.0.next_within c.loop-head-test.true c.field-a.ensures c.visit-tail-in-loop-head.ensures in
    let x = c.requires.0.opposite_within _ (c.loop-head.invariant.0.queue.queued _ c.loop-head-test.true).0 in
    let below : c.field-b.result < c.args.n = omega (arith, x, c.field-b.ensures) in
    (omega (arith, below, q.len_m), omega (arith, q.fits, c.requires.0.few), λ z. omega (arith, queue_room q _ below z, q.len_o))

pub loop-head-smaller : goal.loop-head-smaller
loop-head-smaller c =
    omega (arith, c.loop-head.invariant.0.queue.fits, c.loop-head-test.true)

pub loop-head-preserved : goal.loop-head-preserved
loop-head-preserved c = (
  walk_step _ _ _ _ _ (volume_linked c.requires.0 c.requires.1) c.loop-head.invariant.0 c.requires.0.next_within
      c.requires.0.opposite_within c.loop-head-test.true c.field-a.ensures c.visit-tail-in-loop-head.ensures c.field-b.ensures
      c.visit-tail-in-loop-head-2.ensures,
  (visited_lengths c.visit-tail-in-loop-head-2.ensures).1 ∙ (visited_lengths c.visit-tail-in-loop-head.ensures).1 ∙ c.loop-head.invariant.1,
  (visited_lengths c.visit-tail-in-loop-head-2.ensures).0 ∙ (visited_lengths c.visit-tail-in-loop-head.ensures).0 ∙ c.loop-head.invariant.2,
)

pub shape_of-order : goal.shape_of-order
shape_of-order c =
    c.loop-head.invariant.1 ∙ (visited_lengths c.visit-tail.ensures).1

pub shape_of-marks : goal.shape_of-marks
shape_of-marks c =
    c.loop-head.invariant.2 ∙ (visited_lengths c.visit-tail.ensures).0

pub returns : goal.returns
returns c =
    record {
      marked = walk_end _ _ _ _ _ (volume_linked c.requires.0 c.requires.1) c.loop-head.invariant.0 c.loop-head-test.false;
      count = walk_count _ _ _ _ _ (volume_linked c.requires.0 c.requires.1) c.loop-head.invariant.0 c.loop-head-test.false;
      listed = walk_listed _ _ _ _ _ (volume_linked c.requires.0 c.requires.1) c.loop-head.invariant.0 c.loop-head-test.false;
    }
