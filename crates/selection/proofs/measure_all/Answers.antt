use mathlib.Core.Path.{refl, ◌∙◌}
use lib.ListN.{length-set}
use Rattle.selection.proofs.Loops.{measuring_start, measuring_next, measured_all}
use native.Mathlib.Omega.{arith}
use Rattle.selection.proofs.measure_all.Goals as goal

pub bounds-block-2 : goal.bounds-block-2
bounds-block-2 c =
    omega arith

pub loop-p-init : goal.loop-p-init
loop-p-init c = (
  measuring_start _ _ _ _ _ c.requires.walkable.1 c.requires.block_in_bounds.0 c.requires.block_in_bounds.1 c.requires.walkable.2,
  refl,
  refl,
  refl,
)

pub measure-m-requires : goal.measure-m-requires
measure-m-requires c =
    (c.requires.walkable.0, c.loop-p-test.true, c.loop-p.invariant.0.through)

pub offset_bounds-sizes-p : goal.offset_bounds-sizes-p
offset_bounds-sizes-p c =
    omega arith

pub bounds-sizes-p : goal.bounds-sizes-p
bounds-sizes-p c =
    omega arith

pub loop-p-preserved : goal.loop-p-preserved
loop-p-preserved c = (
  measuring_next c.loop-p.invariant.0 c.loop-p-test.true c.measure-m.ensures.through c.measure-m.ensures.size_is,
  length-set c.loop-p.sizes _ _ ∙ c.loop-p.invariant.1,
  omega (arith, c.measure-m.auto, c.loop-p.invariant.2),
  omega (arith, c.measure-m.auto, c.loop-p.invariant.3),
)

pub shape_of-sizes : goal.shape_of-sizes
shape_of-sizes c =
    c.loop-p.invariant.1

pub shape_of-order : goal.shape_of-order
shape_of-order c =
    c.loop-p.invariant.2

pub shape_of-marks : goal.shape_of-marks
shape_of-marks c =
    c.loop-p.invariant.3

pub returns : goal.returns
returns c =
    measured_all c.loop-p.invariant.0 c.loop-p-test.false
