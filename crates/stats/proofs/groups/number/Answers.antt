use mathlib.Core.Path.{refl, ◌∙◌}
use lib.ListN.{length-set}
use Rattle.stats.proofs.Numbering.{through_start, through_skip, through_new, through_all, count_few}
use native.Mathlib.Omega.{arith}
use Rattle.stats.proofs.groups.number.Goals as goal

pub bounds-block-2 : goal.bounds-block-2
bounds-block-2 c =
    omega (arith, c.requires.joined.0.linked.size)

pub loop-p-init : goal.loop-p-init
loop-p-init c =
    (through_start _ _ _ _ _ c.requires.joined.1 c.requires.joined.2 c.requires.block_in_bounds.0 c.requires.block_in_bounds.1, refl, refl, refl)

pub offset_bounds-groups-p : goal.offset_bounds-groups-p
offset_bounds-groups-p c =
    omega (arith, c.requires.joined.0.linked.few)

pub bounds-groups-p : goal.bounds-groups-p
bounds-groups-p c =
    omega (arith, c.requires.joined.0.linked.few, c.loop-p.invariant.0.queue.len_g)

pub loop-p-preserved-then-groups-p-ne0 : goal.loop-p-preserved-then-groups-p-ne0
loop-p-preserved-then-groups-p-ne0 c =
    let next = through_skip c.requires.joined.0 c.loop-p.invariant.0 c.loop-p-test.true (omega (arith, c.if-groups-p-ne0.true)) in
    (next, c.loop-p.invariant.1, c.loop-p.invariant.2, c.loop-p.invariant.3)

pub offset_bounds-firsts-count : goal.offset_bounds-firsts-count
offset_bounds-firsts-count c =
    omega (arith, c.requires.joined.0.linked.few, count_few c.requires.joined.0 c.loop-p.invariant.0 c.loop-p-test.true c.if-groups-p-ne0.false)

pub bounds-firsts-count : goal.bounds-firsts-count
bounds-firsts-count c =
    omega (arith, count_few c.requires.joined.0 c.loop-p.invariant.0 c.loop-p-test.true c.if-groups-p-ne0.false, c.loop-p.invariant.0.len_f)

pub overflow_add-count : goal.overflow_add-count
overflow_add-count c =
    omega (arith, c.requires.joined.0.linked.few, count_few c.requires.joined.0 c.loop-p.invariant.0 c.loop-p-test.true c.if-groups-p-ne0.false)

pub add_group-tail-requires : goal.add_group-tail-requires
add_group-tail-requires c =
    record {
      joined = (c.requires.joined.0, c.loop-p-test.true, omega arith);
      queued = (c.loop-p.invariant.0.queue, c.loop-p.invariant.0.shut, c.if-groups-p-ne0.false);
    }

pub loop-p-preserved : goal.loop-p-preserved
loop-p-preserved c = (
  through_new c.requires.joined.0 c.loop-p.invariant.0 c.loop-p-test.true c.if-groups-p-ne0.false c.add_group-tail.ensures.queue
      c.add_group-tail.ensures.assigned,
  omega (arith, c.add_group-tail.auto, c.loop-p.invariant.1),
  length-set c.loop-p.firsts _ _ ∙ c.loop-p.invariant.2,
  omega (arith, c.add_group-tail.auto, c.loop-p.invariant.3),
)

pub shape_of-groups : goal.shape_of-groups
shape_of-groups c =
    c.loop-p.invariant.1

pub shape_of-firsts : goal.shape_of-firsts
shape_of-firsts c =
    c.loop-p.invariant.2

pub shape_of-order : goal.shape_of-order
shape_of-order c =
    c.loop-p.invariant.3

pub returns : goal.returns
returns c =
    through_all c.loop-p.invariant.0 c.loop-p-test.false
