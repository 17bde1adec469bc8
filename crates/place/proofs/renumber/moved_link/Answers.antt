-- `place::renumber::moved_link` meets its contract: only a sewn dart's link is a place. Assumes nothing.
use mathlib.Core.Path.{sym, ◌∙◌}
use lib.ListN.{get_or}
use Rattle.place.proofs.Renumbering.{link_sewn, link_other}
use Rattle.place.proofs.renumber.moved_link.Goals as goal

pub moved_at-requires : goal.moved_at-requires
moved_at-requires c =
    c.requires (sym c.is_sewn.ensures ∙ c.if-is_sewn.true)

pub returns-then-is_sewn : goal.returns-then-is_sewn
returns-then-is_sewn c =
    c.moved_at.ensures ∙ link_sewn (λ p. get_or c.args.table.now p 0) _ _ (sym c.is_sewn.ensures ∙ c.if-is_sewn.true)

pub returns : goal.returns
returns c =
    link_other _ _ _ (sym c.is_sewn.ensures ∙ c.if-is_sewn.false)
