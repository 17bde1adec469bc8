use Prim.Native.Nat.{ℕ, ◌<◌, ◌≤◌}
use mathlib.Core.Path.{◌≡◌, refl, ap, ◌∙◌}
use lib.Dec.{ltb}
use lib.ListN.{get_or}
use Rattle.std.proofs.Common.{get_or-take, length-take-le}
use Rattle.selection.proofs.Loops.{count_below, count_few, count_yes, count_no, not_zero, is_zero}
use native.Mathlib.Omega.{arith}
use Rattle.selection.proofs.count_of.Goals as goal
use Rattle.selection.proofs.count_of.Goals.{then-s-ne0, else-s-ne0}

pub loop-s-init : goal.loop-s-init
loop-s-init c =
    (omega arith, refl)

pub overflow_add-c : goal.overflow_add-c
overflow_add-c c =
    omega (arith, c.loop-s.invariant.0, c.loop-s.invariant.1, count_few (λ x. ltb 0 (get_or c.args.sizes.now x 0)) c.loop-s.s-index, c.requires.0)

pub loop-s-preserved : goal.loop-s-preserved
loop-s-preserved c =
    let sizes = c.args.sizes.now in
    let p = c.loop-s.s-index in
    let held = λ (x : ℕ). ltb 0 (get_or sizes x 0) in
    let below : p < c.args.n = omega (arith, length-take-le c.args.n sizes c.requires.1, c.loop-s-test.true) in
    let same = get_or-take c.args.n sizes p 0 below in
    elim c.if-s-ne0.branch [
      | then-s-ne0 w ↦ (omega (arith, below), w.c-is ∙ count_yes held p c.loop-s.c c.loop-s.invariant.1 (not_zero sizes p _ same w.if-s-ne0.true))
      | else-s-ne0 w ↦ (omega (arith, below), w.c-is ∙ count_no held p c.loop-s.c c.loop-s.invariant.1 (is_zero sizes p _ same w.if-s-ne0.false))
    ]

pub returns : goal.returns
returns c =
    let all : c.args.n ≤ c.loop-s.s-index = omega (arith, length-take-le c.args.n c.args.sizes.now c.requires.1, c.loop-s-test.false) in
    let e : c.loop-s.s-index ≡ c.args.n = omega (arith, c.loop-s.invariant.0, all) in
    c.loop-s.invariant.1 ∙ ap (count_below (λ x. ltb 0 (get_or c.args.sizes.now x 0))) e
