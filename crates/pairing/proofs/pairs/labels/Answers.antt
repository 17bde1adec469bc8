use mathlib.Core.Path.{◌≡◌, refl, subst}
use Prim.Native.Nat.{ℕ, ◌+◌, ◌*◌}
use Rattle.pairing.specs.Keys.{label_pair}
use Rattle.pairing.proofs.Steps.{PairsLeft, pairs_all, pairs_more, pairs_no, halves_end}
use native.Mathlib.Omega.{arith}
use Rattle.pairing.proofs.pairs.labels.Goals as goal

pub loop-h-init : goal.loop-h-init
loop-h-init c =
    pairs_all _ _

pub two-requires : goal.two-requires
two-requires c =
    (c.requires.0, c.requires.1, c.requires.2, omega (arith, c.loop-h-test.true))

pub returns-then-not-two : goal.returns-then-not-two
returns-then-not-two c =
    pairs_no c.loop-h.invariant (omega (arith, c.loop-h-test.true)) c.two.ensures c.if-not-two.true

pub loop-h-preserved : goal.loop-h-preserved
loop-h-preserved c =
    let next : 2 * c.loop-h.h + 2 ≡ 2 * (c.loop-h.h + 1) = omega arith in
    subst (λ (t : ℕ). PairsLeft (label_pair c.args.mesh.now c.args.table.now) c.args.keys.now t) next
    (pairs_more c.loop-h.invariant (omega (arith, c.loop-h-test.true)) c.two.ensures c.if-not-two.false)

pub returns : goal.returns
returns c =
    halves_end c.loop-h.h refl c.loop-h.invariant c.loop-h-test.false
