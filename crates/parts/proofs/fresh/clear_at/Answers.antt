-- `parts::fresh::clear_at` meets its contract.
-- Assumes nothing.
use Rattle.model.specs.Image.{is_critical_word}
use Rattle.ranking.specs.Ranks.{value_at, rank_in}
use mathlib.Core.Path.{sym, ◌∙◌, ap}
use Rattle.parts.proofs.FreshSteps.{clear_free, clear_none, clear_found}
use Rattle.parts.proofs.fresh.clear_at.Goals as goal

pub returns-then-not-is_critical : goal.returns-then-not-is_critical
returns-then-not-is_critical c =
    clear_free c.args.block.now c.args.keys.now c.args.k c.args.p.0
    (ap is_critical_word (sym c.field.ensures) ∙ sym c.is_critical.ensures ∙ c.if-not-is_critical.true)

pub returns-in_default : goal.returns-in_default
returns-in_default c =
    let block = c.args.block.now in
    let keys = c.args.keys.now in
    let k = c.args.k in
    let p' = c.args.p.0 in
    clear_none block keys k p' (ap is_critical_word (sym c.field.ensures) ∙ sym c.is_critical.ensures ∙ c.if-not-is_critical.false)
    (ap (rank_in (value_at keys) k) (sym c.field-2.ensures) ∙ sym c.find.ensures ∙ c.in_default.is)

pub returns : goal.returns
returns c =
    let block = c.args.block.now in
    let keys = c.args.keys.now in
    let k = c.args.k in
    let p' = c.args.p.0 in
    clear_found block keys k p' (ap is_critical_word (sym c.field.ensures) ∙ sym c.is_critical.ensures ∙ c.if-not-is_critical.false)
    (ap (rank_in (value_at keys) k) (sym c.field-2.ensures) ∙ sym c.find.ensures ∙ c.in-Some.is)
