use mathlib.Core.Path.{ap}
use mathlib.Core.Bool.{not, ◌&&◌}
use Prim.Native.Nat.{ℕ, ◌<◌}
use lib.Dec.{eqb}
use Rattle.std.proofs.Common.{get_or-take, length-take-le}
use Rattle.parts.specs.Numbers.{neither_at}
use Rattle.parts.proofs.NumberLaws.{every_none, every_more, every_all}
use native.Mathlib.Omega.{arith}
use Rattle.parts.proofs.numbers.neither.Goals as goal

pub loop-other-init : goal.loop-other-init
loop-other-init c =
    (every_none (neither_at c.args.others.now c.args.from c.args.to), omega arith)

pub loop-other-preserved : goal.loop-other-preserved
loop-other-preserved c =
    let others = c.args.others.now in
    let e = c.loop-other.other-index in
    let below : e < c.args.c = omega (arith, length-take-le c.args.c others c.requires, c.loop-other-test.true) in
    let same = ap (λ (x : ℕ). not (eqb x c.args.from) && not (eqb x c.args.to)) (get_or-take c.args.c others e 0 below) in
    (every_more (neither_at others c.args.from c.args.to) e c.loop-other.invariant.0 same, omega (arith, below))

pub returns : goal.returns
returns c =
    every_all (neither_at c.args.others.now c.args.from c.args.to) c.loop-other.invariant.0 c.loop-other.invariant.1
    (omega (arith, length-take-le c.args.c c.args.others.now c.requires, c.loop-other-test.false))
