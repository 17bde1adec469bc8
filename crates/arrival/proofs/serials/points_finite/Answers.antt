use Prim.Native.Nat.{◌+◌, ◌*◌}
use mathlib.Core.Path.{sym, ◌∙◌}
use Rattle.model.specs.Values.{finite}
use Rattle.inbox.specs.Inbox.{point_in}
use Rattle.arrival.proofs.Steps.{passing_none, passing_more, passing_all, passing_not}
use Rattle.arrival.proofs.Eighteen.{points_tested}
use native.Mathlib.Omega.{arith}
use Rattle.arrival.proofs.serials.points_finite.Goals as goal

pub loop-j-init : goal.loop-j-init
loop-j-init c =
    passing_none _

pub returns-then-not-point_finite : goal.returns-then-not-point_finite
returns-then-not-point_finite c =
    let message = c.args.message.now in
    let from = c.args.from in
    let count = c.args.count in
    passing_not (λ i. finite (point_in message (from + 24 * i))) c.loop-j.j count (omega arith)
    (sym c.point_finite.ensures ∙ c.if-not-point_finite.true) ∙ sym (points_tested message from count)

pub loop-j-preserved : goal.loop-j-preserved
loop-j-preserved c =
    passing_more c.loop-j.invariant (sym c.point_finite.ensures ∙ c.if-not-point_finite.false)

pub returns : goal.returns
returns c =
    passing_all {k = c.args.count} c.loop-j.invariant (omega arith) ∙ sym (points_tested c.args.message.now c.args.from c.args.count)
