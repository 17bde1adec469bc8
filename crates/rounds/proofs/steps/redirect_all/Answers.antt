use mathlib.Core.Path.{ap}
use Rattle.rounds.proofs.Cuts.{first_there, first_fits, first_some, first_part}
use Rattle.rounds.proofs.Running.{none_told, one_more, all_told, same_message}
use Prim.Native.Nat.{◌+◌}
use lib.ListN.{drop, length-drop}
use native.Mathlib.Omega.{arith}
use Rattle.rounds.proofs.steps.redirect_all.Goals as goal

pub loop-at-init : goal.loop-at-init
loop-at-init c =
    none_told _ _ _

pub overflow_add-end : goal.overflow_add-end
overflow_add-end c =
    let u = c.args.updates.now in
    let e = first_there u c.loop-at.at c.first_message.ensures in
    let l = first_fits (drop c.loop-at.at u) in
    let d = length-drop c.loop-at.at u in
    omega (arith, e, l, d, c.loop-at-test.true)

pub slice_bounds-redirect_message-end : goal.slice_bounds-redirect_message-end
slice_bounds-redirect_message-end c =
    let u = c.args.updates.now in
    let e = first_there u c.loop-at.at c.first_message.ensures in
    let l = first_fits (drop c.loop-at.at u) in
    let d = length-drop c.loop-at.at u in
    omega (arith, e, l, d, c.loop-at-test.true)

pub loop-at-smaller : goal.loop-at-smaller
loop-at-smaller c =
    let u = c.args.updates.now in
    let e = first_there u c.loop-at.at c.first_message.ensures in
    let d = length-drop c.loop-at.at u in
    let s = first_some (drop c.loop-at.at u) (omega (arith, d, c.loop-at-test.true)) in
    omega (arith, e, s, c.loop-at-test.true)

pub loop-at-preserved : goal.loop-at-preserved
loop-at-preserved c =
    let u = c.args.updates.now in
    let e = ap (λ n. c.loop-at.at + n) (first_there u c.loop-at.at c.first_message.ensures) in
    one_more c.loop-at.invariant c.loop-at-test.true _ e (same_message (first_part u c.loop-at.at _ e) c.redirect_message-told.ensures)

pub returns : goal.returns
returns c =
    all_told c.loop-at.invariant c.loop-at-test.false
