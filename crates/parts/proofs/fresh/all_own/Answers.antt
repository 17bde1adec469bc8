use mathlib.Core.Path.{sym, ◌∙◌}
use Rattle.parts.specs.Fresh.{own_at}
use Rattle.arrival.proofs.Steps.{passing_none, passing_more, passing_all, passing_not}
use native.Mathlib.Omega.{arith}
use Rattle.parts.proofs.fresh.all_own.Goals as goal

pub loop-q-init : goal.loop-q-init
loop-q-init c =
    passing_none _

pub returns-then-not-own_right : goal.returns-then-not-own_right
returns-then-not-own_right c =
    let number = c.args.number in
    let counter = c.args.counter in
    let kinds = c.args.kinds.now in
    let links = c.args.links.now in
    let k = c.args.k in
    passing_not (own_at number counter kinds links) c.loop-q.q k (omega arith) (sym c.own_right.ensures ∙ c.if-not-own_right.true)

pub loop-q-preserved : goal.loop-q-preserved
loop-q-preserved c =
    passing_more c.loop-q.invariant (sym c.own_right.ensures ∙ c.if-not-own_right.false)

pub returns : goal.returns
returns c =
    passing_all {k = c.args.k} c.loop-q.invariant (omega arith)
