use Rattle.cells.proofs.Paths.{assign_none}
use Rattle.parts.proofs.SewnFaces.{assign_trail, assigned_all}
use native.Mathlib.Omega.{arith}
use Rattle.parts.proofs.meets.assign.Goals as goal

pub loop-j-init : goal.loop-j-init
loop-j-init c =
    (assign_none 1 _, omega arith)

pub place_at-place-requires : goal.place_at-place-requires
place_at-place-requires c =
    omega (arith, c.requires.len)

pub bounds-seen-p : goal.bounds-seen-p
bounds-seen-p c =
    omega (arith, c.requires.below c.loop-j.j (omega arith), c.loop-j.invariant.0.size, c.place_at-place.ensures)

pub loop-j-preserved : goal.loop-j-preserved
loop-j-preserved c =
    let trail = c.args.trail.now in (
      assign_trail trail c.loop-j.j c.loop-j.invariant.0 (let l = c.requires.len in omega (arith, l))
          (c.requires.below c.loop-j.j (omega arith))
          c.place_at-place.ensures,
      omega arith,
    )

pub shape_of-seen : goal.shape_of-seen
shape_of-seen c =
    c.loop-j.invariant.0.size

pub returns : goal.returns
returns c =
    assigned_all c.args.trail.now c.loop-j.j c.args.size c.loop-j.invariant.0 c.loop-j.invariant.1 (omega arith)
