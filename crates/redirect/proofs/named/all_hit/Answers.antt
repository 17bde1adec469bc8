use mathlib.Core.Path.{ap}
use Prim.Native.Nat.{ℕ, ◌<◌}
use lib.Dec.{eqb}
use lib.ListN.{get_or}
use Rattle.std.proofs.Common.{get_or-take, length-take-le}
use Rattle.columns.proofs.Below.{below_none, below_step}
use Rattle.redirect.proofs.Hits.{all_below_end}
use native.Mathlib.Omega.{arith}
use Rattle.redirect.proofs.named.all_hit.Goals as goal

pub loop-hit-init : goal.loop-hit-init
loop-hit-init c =
    (omega arith, below_none (λ j. eqb (get_or c.args.hits.now j 0) 1))

pub loop-hit-preserved : goal.loop-hit-preserved
loop-hit-preserved c =
    let hits = c.args.hits.now in
    let i = c.loop-hit.hit-index in
    let below : i < c.args.c = omega (arith, length-take-le c.args.c hits c.requires, c.loop-hit-test.true) in
    (omega (arith, below), below_step (λ j. eqb (get_or hits j 0) 1) i c.loop-hit.invariant.1 (ap (λ (x : ℕ). eqb x 1) (get_or-take c.args.c hits i 0 below)))

pub returns : goal.returns
returns c =
    all_below_end (λ j. eqb (get_or c.args.hits.now j 0) 1) c.loop-hit.invariant.0
    (omega (arith, length-take-le c.args.c c.args.hits.now c.requires, c.loop-hit-test.false)) c.loop-hit.invariant.1
