-- `rounds::steps::call_at` meets its contract.
-- Assumes nothing.
use mathlib.Core.Path.{refl}
use Prim.Native.Nat.{◌+◌, ◌*◌, ◌-◌}
use lib.ListN.{take, drop}
use Rattle.std.specs.Fn.{FnOnceReturnsAtMut}
use native.Mathlib.Omega.{arith}
use Rattle.rounds.proofs.Placed.{own_fits}
use Rattle.rounds.proofs.Stepping.{stepped, nowhere}
use Rattle.rounds.proofs.steps.call_at.Goals as goal

pub returns-then-mesh-b : goal.returns-then-mesh-b
returns-then-mesh-b g c =
    λ d w. nowhere c.args.viewers c.args.mesh.now c.args.b d c.if-mesh-b.true (w.nowhere _)

pub overflow_add-end : goal.overflow_add-end
overflow_add-end g c =
    omega (arith, c.own_words.ensures, own_fits c.args.viewers c.args.b)

pub slice_bounds-call-end : goal.slice_bounds-call-end
slice_bounds-call-end g c =
    omega (arith, c.own_words.ensures, own_fits c.args.viewers c.args.b)

pub returns : goal.returns
returns g c = λ d w.
    let m = c.args.mesh.now in
    let from = c.args.b * 32776 in
    let n = c.own_words.result in
    let gave : FnOnceReturnsAtMut g.F.FnOnce c.args.call (take (from + n - from) (drop from m)) c.call.result c.call.new.arg2 =
    record { shown = _; shows = refl; left = _; met = c.call.ensures; leaves = refl } in
    stepped c.args.viewers m c.call.new.arg2 c.args.b _ _ d refl c.own_words.ensures c.if-mesh-b.false c.call.auto.arg2 (w.number_is gave) (w.memory_is gave)
