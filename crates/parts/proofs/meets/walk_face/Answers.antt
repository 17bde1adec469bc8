use Prim.Native.Nat.{◌<◌}
use lib.ListN.{length, length-set}
use mathlib.Core.Path.{refl}
use Rattle.cells.proofs.Paths.{round, going_begin, going_again, writing_start, writing_on, writing_end}
use Rattle.parts.proofs.Trails.{walked_back, walked_far}
use native.Mathlib.Omega.{arith}
use Rattle.parts.proofs.meets.walk_face.Goals as goal

pub loop-i-init : goal.loop-i-init
loop-i-init c = (
  going_begin (round c.requires.0.few c.requires.0.next_within c.requires.0.next_apart _ c.requires.1)
      c.requires.1 0,
  writing_start _ _ _ _,
  omega arith,
)

pub offset_bounds-trail-i : goal.offset_bounds-trail-i
offset_bounds-trail-i c =
    omega arith

pub bounds-trail-i : goal.bounds-trail-i
bounds-trail-i c =
    omega arith

pub next_of-next-requires : goal.next_of-next-requires
next_of-next-requires c =
    omega (arith, c.loop-i.invariant.0.below, c.requires.0.size)

pub shape_of-trail-then-p-first : goal.shape_of-trail-then-p-first
shape_of-trail-then-p-first c =
    simp length-set c.loop-i.invariant.1.size

pub returns-then-p-first : goal.returns-then-p-first
returns-then-p-first c =
    let R = round c.requires.0.few c.requires.0.next_within c.requires.0.next_apart _ c.requires.1 in
    let left : c.loop-i.i < length c.loop-i.trail = omega (arith, c.loop-i.invariant.1.size, c.requires.2) in
    walked_back c.loop-i.i c.requires.2
    (writing_end c.requires.0.next_within R c.loop-i.invariant.0 c.loop-i.invariant.1 left c.next_of-next.ensures c.if-p-first.true refl)

pub loop-i-preserved : goal.loop-i-preserved
loop-i-preserved c =
    let R = round c.requires.0.few c.requires.0.next_within c.requires.0.next_apart _ c.requires.1 in
    let left : c.loop-i.i < length c.loop-i.trail = omega (arith, c.loop-i.invariant.1.size, c.requires.2) in (
      going_again c.requires.0.next_within R c.loop-i.invariant.0 c.loop-i.invariant.1 left c.next_of-next.ensures c.if-p-first.false,
      writing_on c.requires.0.next_within R c.loop-i.invariant.0 c.loop-i.invariant.1 left,
      omega arith,
    )

pub shape_of-trail : goal.shape_of-trail
shape_of-trail c =
    c.loop-i.invariant.1.size

pub returns : goal.returns
returns c =
    walked_far c.loop-i.i (omega (arith, c.loop-i.invariant.1.size, c.requires.2)) c.loop-i.invariant.0 (omega arith)
