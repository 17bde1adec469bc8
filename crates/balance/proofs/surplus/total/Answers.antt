use Prim.Native.Nat.{◌<◌}
use Rattle.std.proofs.Common.{get_or-take, length-take-le}
use Rattle.balance.proofs.SurplusLaws.{summing_start, summing_next, summed}
use native.Mathlib.Omega.{arith}
use Rattle.balance.proofs.surplus.total.Goals as goal

pub loop-x-init : goal.loop-x-init
loop-x-init c =
    summing_start _ _

pub overflow_add-t : goal.overflow_add-t
overflow_add-t c =
    let k = c.args.k in
    let i = c.loop-x.x-index in
    let below : i < k = omega (arith, length-take-le k c.args.c (omega arith), c.loop-x-test.true) in
    omega (arith, below, c.requires.0, get_or-take k c.args.c i 0 below, c.requires.1 i below, c.loop-x.invariant.small_sum)

pub loop-x-preserved : goal.loop-x-preserved
loop-x-preserved c =
    let k = c.args.k in
    let i = c.loop-x.x-index in
    let below : i < k = omega (arith, length-take-le k c.args.c (omega arith), c.loop-x-test.true) in
    rw (get_or-take k c.args.c i 0 below) (summing_next c.loop-x.invariant below (c.requires.1 i below))

pub returns : goal.returns
returns c =
    summed c.loop-x.invariant (omega (arith, length-take-le c.args.k c.args.c (omega arith), c.loop-x-test.false)) c.requires.0
