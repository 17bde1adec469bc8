use mathlib.Core.Path.{sym, ◌∙◌}
use Rattle.model.specs.Lists.{tab}
use Rattle.ranking.specs.Ranks.{value_at}
use Rattle.parts.specs.Fresh.{clear_at}
use Rattle.arrival.proofs.Steps.{passing_none, passing_more, passing_all, passing_not}
use native.Mathlib.Omega.{arith}
use Rattle.parts.proofs.fresh.all_clear.Goals as goal

pub loop-p-init : goal.loop-p-init
loop-p-init c =
    passing_none _

pub clear_at-requires : goal.clear_at-requires
clear_at-requires c =
    (omega (arith, c.requires.0), c.requires.2, c.requires.3, c.requires.4)

pub returns-then-not-clear_at : goal.returns-then-not-clear_at
returns-then-not-clear_at c =
    let block = c.args.block.now in
    let keys = c.args.keys.now in
    let k = c.args.k in
    let n = c.args.n in
    passing_not (clear_at block (tab (value_at keys) k)) c.loop-p.p n (omega arith) (sym c.clear_at.ensures ∙ c.if-not-clear_at.true)

pub loop-p-preserved : goal.loop-p-preserved
loop-p-preserved c =
    passing_more c.loop-p.invariant (sym c.clear_at.ensures ∙ c.if-not-clear_at.false)

pub returns : goal.returns
returns c =
    passing_all {k = c.args.n} c.loop-p.invariant (omega arith)
