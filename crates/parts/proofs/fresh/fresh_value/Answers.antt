-- `parts::fresh::fresh_value` meets its contract.
-- Assumes nothing.
use Rattle.parts.proofs.FreshSteps.{fresh_free, fresh_critical}
use mathlib.Core.Path.{sym, ◌∙◌}
use Rattle.parts.proofs.fresh.fresh_value.Goals as goal

pub returns-then-is_critical : goal.returns-then-is_critical
returns-then-is_critical c =
    fresh_critical c.args.kind c.args.link c.args.q.0 (sym c.is_critical.ensures ∙ c.if-is_critical.true)

pub returns : goal.returns
returns c =
    fresh_free c.args.kind c.args.link c.args.q.0 (sym c.is_critical.ensures ∙ c.if-is_critical.false)
