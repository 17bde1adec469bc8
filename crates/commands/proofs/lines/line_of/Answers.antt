-- `commands::lines::line_of` meets its contract. Assumes nothing.
use mathlib.Core.Path.{sym, ◌∙◌}
use Rattle.commands.proofs.Fields.{line_blank, line_first, line_second, line_third, line_more, line_request}
use Rattle.commands.proofs.lines.line_of.Goals as goal

pub returns-then-is_rest_blank : goal.returns-then-is_rest_blank
returns-then-is_rest_blank c =
    line_blank _ (sym c.is_rest_blank.ensures ∙ c.if-is_rest_blank.true)

pub returns-in_default : goal.returns-in_default
returns-in_default c =
    line_first _ (sym c.is_rest_blank.ensures ∙ c.if-is_rest_blank.false) (sym c.in_default.is ∙ c.field_at.ensures)

pub returns-in_default-field_at : goal.returns-in_default-field_at
returns-in_default-field_at c =
    line_second _ _ _ (sym c.is_rest_blank.ensures ∙ c.if-is_rest_blank.false) (sym c.in-Some.is ∙ c.field_at.ensures)
    (sym c.in_default-field_at.is ∙ c.field_at-2.ensures)

pub returns-in_default-field_at-2 : goal.returns-in_default-field_at-2
returns-in_default-field_at-2 c =
    line_third _ _ _ _ _ (sym c.is_rest_blank.ensures ∙ c.if-is_rest_blank.false) (sym c.in-Some.is ∙ c.field_at.ensures)
    (sym c.in-Some-field_at.is ∙ c.field_at-2.ensures) (sym c.in_default-field_at-2.is ∙ c.field_at-3.ensures)

pub returns-then-not-is_rest_blank : goal.returns-then-not-is_rest_blank
returns-then-not-is_rest_blank c =
    line_more _ _ _ _ _ _ _ (sym c.is_rest_blank.ensures ∙ c.if-is_rest_blank.false) (sym c.in-Some.is ∙ c.field_at.ensures)
    (sym c.in-Some-field_at.is ∙ c.field_at-2.ensures) (sym c.in-Some-field_at-2.is ∙ c.field_at-3.ensures)
    (sym c.is_rest_blank-2.ensures ∙ c.if-not-is_rest_blank.true)

pub returns : goal.returns
returns c =
    line_request _ _ _ _ _ _ _ (sym c.is_rest_blank.ensures ∙ c.if-is_rest_blank.false) (sym c.in-Some.is ∙ c.field_at.ensures)
    (sym c.in-Some-field_at.is ∙ c.field_at-2.ensures) (sym c.in-Some-field_at-2.is ∙ c.field_at-3.ensures)
    (sym c.is_rest_blank-2.ensures ∙ c.if-not-is_rest_blank.false)
