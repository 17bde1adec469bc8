use mathlib.Core.Path.{refl}
use Rattle.parts.proofs.Writing.{over_none, over_more, over_all}
use native.Mathlib.Omega.{arith}
use Rattle.parts.proofs.faces.fill.Goals as goal

pub loop-j-init : goal.loop-j-init
loop-j-init c =
    (over_none _ _ _, omega arith)

pub bounds-array-first : goal.bounds-array-first
bounds-array-first c =
    let s = c.loop-j.invariant.0.size in
    omega arith

pub loop-j-preserved : goal.loop-j-preserved
loop-j-preserved c =
    (over_more c.loop-j.invariant.0 (omega arith) refl, omega arith)

pub shape_of-array : goal.shape_of-array
shape_of-array c =
    c.loop-j.invariant.0.size

pub returns : goal.returns
returns c =
    over_all c.loop-j.invariant.0 c.loop-j.invariant.1 (omega arith)
