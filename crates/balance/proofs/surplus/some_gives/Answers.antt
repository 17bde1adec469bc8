use mathlib.Core.Path.{sym, ap, ◌∙◌}
use Prim.Native.Nat.{ℕ, ◌<◌}
use Rattle.std.proofs.Common.{get_or-take, length-take-le}
use Rattle.model.specs.Balance.{may_give}
use Rattle.balance.proofs.SurplusLaws.{seeking_start, seeking_next, sought, sought_all}
use native.Mathlib.Omega.{arith}
use Rattle.balance.proofs.surplus.some_gives.Goals as goal

pub loop-x-init : goal.loop-x-init
loop-x-init c =
    seeking_start _ _

pub gives-requires : goal.gives-requires
gives-requires c =
    c.requires.1

pub returns-then-gives : goal.returns-then-gives
returns-then-gives c =
    let i = c.loop-x.x-index in
    let below : i < c.args.k = omega (arith, length-take-le c.args.k c.args.c (omega arith), c.loop-x-test.true) in
    let same = ap (λ (n : ℕ). may_give n c.args.low) (get_or-take c.args.k c.args.c i 0 below) in
    sought c.loop-x.invariant c.args.k below (sym same ∙ sym c.gives.ensures ∙ c.if-gives.true)

pub loop-x-preserved : goal.loop-x-preserved
loop-x-preserved c =
    let i = c.loop-x.x-index in
    let below : i < c.args.k = omega (arith, length-take-le c.args.k c.args.c (omega arith), c.loop-x-test.true) in
    let same = ap (λ (n : ℕ). may_give n c.args.low) (get_or-take c.args.k c.args.c i 0 below) in
    seeking_next c.loop-x.invariant (sym same ∙ sym c.gives.ensures ∙ c.if-gives.false)

pub returns : goal.returns
returns c =
    sought_all c.loop-x.invariant c.args.k (omega (arith, length-take-le c.args.k c.args.c (omega arith), c.loop-x-test.false))
