-- `parts::fresh::own_right` meets its contract.
-- Assumes nothing.
use mathlib.Core.Path.{refl, sym, ◌∙◌}
use Rattle.parts.proofs.FreshSteps.{own_free, own_critical}
use Rattle.parts.proofs.fresh.own_right.Goals as goal

pub returns-then-not-is_critical : goal.returns-then-not-is_critical
returns-then-not-is_critical c =
    own_free c.args.number c.args.counter c.args.kind c.args.link (sym c.is_critical.ensures ∙ c.if-not-is_critical.true)

pub returns : goal.returns
returns c =
    own_critical c.args.number c.args.counter c.args.kind c.args.link (sym c.is_critical.ensures ∙ c.if-not-is_critical.false)
    (rw (c.maker_of.ensures, c.number_of.ensures) refl)
