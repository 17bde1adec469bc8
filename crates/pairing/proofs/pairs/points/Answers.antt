use mathlib.Core.Path.{◌≡◌, subst}
use Prim.Native.Nat.{ℕ, ◌+◌, ◌*◌}
use Rattle.pairing.specs.Keys.{point_pair}
use Rattle.pairing.proofs.Steps.{EachLeft, each_all, each_more, each_no, each_end}
use native.Mathlib.Omega.{arith}
use Rattle.pairing.proofs.pairs.points.Goals as goal

pub loop-h-init : goal.loop-h-init
loop-h-init c =
    each_all _ _

pub points_pair-requires : goal.points_pair-requires
points_pair-requires c = (
  c.requires.0,
  c.requires.1 (2 * c.loop-h.h) (omega (arith, c.loop-h-test.true)),
  c.requires.1 (2 * c.loop-h.h + 1) (omega (arith, c.loop-h-test.true)),
)

pub returns-then-not-points_pair : goal.returns-then-not-points_pair
returns-then-not-points_pair c =
    each_no c.loop-h.invariant (omega (arith, c.loop-h-test.true)) c.points_pair.ensures c.if-not-points_pair.true

pub loop-h-preserved : goal.loop-h-preserved
loop-h-preserved c =
    let next : 2 * c.loop-h.h + 2 ≡ 2 * (c.loop-h.h + 1) = omega arith in
    subst (λ (t : ℕ). EachLeft (point_pair c.args.mesh.now) c.args.keys.now t) next
    (each_more c.loop-h.invariant (omega (arith, c.loop-h-test.true)) c.points_pair.ensures c.if-not-points_pair.false)

pub returns : goal.returns
returns c =
    each_end c.loop-h.invariant (omega (arith, c.loop-h-test.false))
