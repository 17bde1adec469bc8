use Prim.Native.Nat.{◌<◌}
use lib.Dec.{ltb}
use Rattle.std.proofs.Common.{get_or-take, length-take-le}
use lib.ListN.{get_or}
use borrow.Author.Tests.{lt-ltb, le-ltb}
use Rattle.arrival.proofs.Steps.{passing_none, passing_more, passing_all, passing_not, few_not, few_then}
use native.Mathlib.Omega.{arith}
use Rattle.arrival.proofs.order.vertices_fit.Goals as goal

pub returns-then-k-count : goal.returns-then-k-count
returns-then-k-count c =
    few_not c.args.count c.args.k _ (omega arith)

pub loop-v-init : goal.loop-v-init
loop-v-init c =
    passing_none _

pub returns-then-count-v : goal.returns-then-count-v
returns-then-count-v c =
    let count = c.args.count in
    let k = c.args.k in
    let vertex = c.args.vertex.now in
    let i = c.loop-v.v-index in
    let below : i < k = omega (arith, length-take-le k vertex c.requires, c.loop-v-test.true) in
    few_then count k _ (omega arith)
    (passing_not (λ j. ltb (get_or vertex j 0) count) i k below (le-ltb (get_or vertex i 0) count (omega (arith, get_or-take k vertex i 0 below))))

pub loop-v-preserved : goal.loop-v-preserved
loop-v-preserved c =
    let k = c.args.k in
    let vertex = c.args.vertex.now in
    let i = c.loop-v.v-index in
    let below : i < k = omega (arith, length-take-le k vertex c.requires, c.loop-v-test.true) in
    passing_more c.loop-v.invariant (lt-ltb (get_or vertex i 0) c.args.count (omega (arith, get_or-take k vertex i 0 below)))

pub returns : goal.returns
returns c =
    few_then c.args.count c.args.k _ (omega arith)
    (passing_all {k = c.args.k} c.loop-v.invariant (omega (arith, length-take-le c.args.k c.args.vertex.now c.requires, c.loop-v-test.false)))
