use mathlib.Core.Path.{refl}
use Rattle.stats.proofs.Numbering.{enter_ready, queue_le, going_start, going_place, going_step, going_assigned}
use native.Mathlib.Omega.{arith}
use Rattle.stats.proofs.groups.add_group.Goals as goal

pub enter-end-requires : goal.enter-end-requires
enter-end-requires c =
    enter_ready c.requires.queued.0 c.requires.joined.0.linked.few _ c.requires.joined.1

pub loop-head-init : goal.loop-head-init
loop-head-init c =
    (refl, refl, λ G o q x. going_start c.requires.joined.0 c.args.third c.requires.joined.1 c.requires.joined.2 q x)

pub offset_bounds-order-head : goal.offset_bounds-order-head
offset_bounds-order-head c =
    let w = c.loop-head.invariant.2 _ _ c.requires.queued.0 c.enter-end.ensures in
    omega (arith, queue_le w.queue, c.requires.joined.0.linked.few)

pub bounds-order-head : goal.bounds-order-head
bounds-order-head c =
    let w = c.loop-head.invariant.2 _ _ c.requires.queued.0 c.enter-end.ensures in
    omega (arith, queue_le w.queue, c.requires.joined.0.linked.few, w.queue.len_o)

pub overflow_add-head : goal.overflow_add-head
overflow_add-head c =
    let w = c.loop-head.invariant.2 _ _ c.requires.queued.0 c.enter-end.ensures in
    omega (arith, queue_le w.queue, c.requires.joined.0.linked.few)

pub enter_links-end-requires : goal.enter_links-end-requires
enter_links-end-requires c =
    let w = c.loop-head.invariant.2 _ _ c.requires.queued.0 c.enter-end.ensures in (
      c.requires.joined.0,
      going_place c.requires.joined.0 c.args.third c.requires.joined.1 c.requires.joined.2 c.requires.queued.0 w c.loop-head-test.true,
      c.requires.joined.2,
      w.queue,
    )

pub loop-head-smaller : goal.loop-head-smaller
loop-head-smaller c =
    let w = c.loop-head.invariant.2 _ _ c.requires.queued.0 c.enter-end.ensures in
    omega (arith, queue_le w.queue, c.requires.joined.0.linked.few, c.loop-head-test.true)

pub loop-head-preserved : goal.loop-head-preserved
loop-head-preserved c = (
  omega (arith, c.enter_links-end.auto, c.loop-head.invariant.0),
  omega (arith, c.enter_links-end.auto, c.loop-head.invariant.1),
  λ G o q x. going_step c.requires.joined.0 c.args.third c.requires.joined.1 c.requires.joined.2 q (c.loop-head.invariant.2 G o q x)
      c.loop-head-test.true
      c.enter_links-end.ensures,
)

pub shape_of-order : goal.shape_of-order
shape_of-order c =
    omega (arith, c.enter-end.auto, c.loop-head.invariant.0)

pub shape_of-groups : goal.shape_of-groups
shape_of-groups c =
    omega (arith, c.enter-end.auto, c.loop-head.invariant.1)

pub returns : goal.returns
returns c =
    let w = c.loop-head.invariant.2 _ _ c.requires.queued.0 c.enter-end.ensures in
    record {
      queue = w.queue;
      assigned = going_assigned c.requires.joined.0 c.args.third c.requires.joined.1 c.requires.joined.2 c.requires.queued.0 c.requires.queued.1
          c.requires.queued.2
          w c.loop-head-test.false (omega (arith, c.enter-end.auto, c.loop-head.invariant.1));
    }
