use Prim.Native.Nat.{◌-◌}
use mathlib.Core.Path.{sym, ◌∙◌}
use Rattle.arrival.specs.Sides.{order_at}
use Rattle.arrival.proofs.Steps.{passing_none, passing_more, passing_all, passing_not}
use native.Mathlib.Omega.{arith}
use Rattle.arrival.proofs.order.ordered.Goals as goal

pub loop-i-init : goal.loop-i-init
loop-i-init c =
    passing_none _

pub order_at-requires : goal.order_at-requires
order_at-requires c =
    (omega arith, omega arith, c.requires.2 c.loop-i.i (omega arith), (λ h. let r = c.requires.2 (c.loop-i.i - 1) (omega arith) in omega arith))

pub returns-then-not-order_at : goal.returns-then-not-order_at
returns-then-not-order_at c =
    let serial = c.args.serial.now in
    let starts = c.args.starts.now in
    let k = c.args.k in
    passing_not (order_at serial starts) c.loop-i.i k (omega arith) (sym c.order_at.ensures ∙ c.if-not-order_at.true)

pub loop-i-preserved : goal.loop-i-preserved
loop-i-preserved c =
    passing_more c.loop-i.invariant (sym c.order_at.ensures ∙ c.if-not-order_at.false)

pub returns : goal.returns
returns c =
    passing_all {k = c.args.k} c.loop-i.invariant (omega arith)
