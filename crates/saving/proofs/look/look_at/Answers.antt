-- `saving::look::look_at` meets its contract: two tests tell the cases. Assumes nothing.
use mathlib.Core.Path.{sym, ◌∙◌}
use mathlib.Core.Bool.{true, false}
use Rattle.saving.proofs.Looked.{look_new, look_own}
use Rattle.saving.proofs.look.look_at.Goals as goal

pub returns-then-is_of : goal.returns-then-is_of
returns-then-is_of c =
    look_new _ _ _ true (sym c.is_some.ensures ∙ c.if-is_some.true) (sym c.is_of.ensures ∙ c.if-is_of.true)

pub returns-then-is_some : goal.returns-then-is_some
returns-then-is_some c =
    look_new _ _ _ false (sym c.is_some.ensures ∙ c.if-is_some.true) (sym c.is_of.ensures ∙ c.if-is_of.false)

pub returns-then-is_of-2 : goal.returns-then-is_of-2
returns-then-is_of-2 c =
    look_own _ _ _ true (sym c.is_some.ensures ∙ c.if-is_some.false) (sym c.is_of-2.ensures ∙ c.if-is_of-2.true)

pub returns : goal.returns
returns c =
    look_own _ _ _ false (sym c.is_some.ensures ∙ c.if-is_some.false) (sym c.is_of-2.ensures ∙ c.if-is_of-2.false)
