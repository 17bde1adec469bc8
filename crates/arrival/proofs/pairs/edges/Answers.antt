use Prim.Native.Nat.{◌+◌, ◌*◌}
use mathlib.Core.Path.{◌≡◌, refl, ◌∙◌}
use lib.ListN.{set, length-set}
use Rattle.arrival.proofs.EdgeLaws.{coupling_none, coupling_not, coupling_more, coupled, coupling_end}
use native.Mathlib.Omega.{arith}
use Rattle.arrival.proofs.pairs.edges.Goals as goal

pub loop-h-init : goal.loop-h-init
loop-h-init c =
    (coupling_none _ _ c.requires.k_in_bounds.1, refl)

pub shape_of-opposite-then-a-b : goal.shape_of-opposite-then-a-b
shape_of-opposite-then-a-b c =
    c.loop-h.invariant.1

pub returns-then-a-b : goal.returns-then-a-b
returns-then-a-b c =
    coupling_not c.requires.k_in_bounds.2 c.loop-h.invariant.0 (omega (arith, c.loop-h-test.true)) (λ l e. c.if-a-b.true (omega (arith, e)))

pub bounds-opposite-a : goal.bounds-opposite-a
bounds-opposite-a c =
    let inside = c.loop-h.invariant.0.inside (2 * c.loop-h.h) (omega (arith, c.loop-h-test.true)) in
    omega (arith, inside)

pub bounds-opposite-b : goal.bounds-opposite-b
bounds-opposite-b c =
    let inside = c.loop-h.invariant.0.inside (2 * c.loop-h.h + 1) (omega (arith, c.loop-h-test.true)) in
    simp length-set (omega (arith, inside))

pub loop-h-preserved : goal.loop-h-preserved
loop-h-preserved c =
    let next : 2 * c.loop-h.h + 2 ≡ 2 * (c.loop-h.h + 1) = omega arith in (
      coupled next
          (coupling_more c.requires.k_in_bounds.2 c.loop-h.invariant.0 (omega (arith, c.loop-h-test.true)) (omega (arith, c.loop-h-test.true))
          c.requires.by_index (omega (arith, c.if-a-b.false)) refl refl),
      length-set (set c.loop-h.opposite _ _) _ _ ∙ length-set c.loop-h.opposite _ _ ∙ c.loop-h.invariant.1,
    )

pub shape_of-opposite : goal.shape_of-opposite
shape_of-opposite c =
    c.loop-h.invariant.1

pub returns : goal.returns
returns c =
    coupling_end c.loop-h.h c.requires.k_in_bounds.2 c.loop-h.invariant.0 c.loop-h-test.false
