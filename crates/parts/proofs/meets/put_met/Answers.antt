use Rattle.parts.proofs.Writing.{over_none, over_more, over_all}
use native.Mathlib.Omega.{arith}
use Rattle.parts.proofs.meets.put_met.Goals as goal

pub loop-j-init : goal.loop-j-init
loop-j-init c =
    (over_none _ _ _, omega arith)

pub met-there-requires : goal.met-there-requires
met-there-requires c =
    (c.requires.0, omega arith)

pub offset_bounds-links-first : goal.offset_bounds-links-first
offset_bounds-links-first c =
    let s = c.loop-j.invariant.0.size in
    omega arith

pub bounds-links-first : goal.bounds-links-first
bounds-links-first c =
    let s = c.loop-j.invariant.0.size in
    omega arith

pub loop-j-preserved : goal.loop-j-preserved
loop-j-preserved c =
    (over_more c.loop-j.invariant.0 (omega arith) c.met-there.ensures, omega arith)

pub shape_of-links : goal.shape_of-links
shape_of-links c =
    c.loop-j.invariant.0.size

pub returns : goal.returns
returns c =
    over_all c.loop-j.invariant.0 c.loop-j.invariant.1 (omega arith)
