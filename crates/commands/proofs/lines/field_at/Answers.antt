-- `commands::lines::field_at` meets its contract. Assumes nothing.
use mathlib.Core.Path.{sym, ◌∙◌}
use Rattle.commands.proofs.Fields.{field_past, field_word}
use Rattle.commands.proofs.lines.field_at.Goals as goal

pub returns-then-line-at : goal.returns-then-line-at
returns-then-line-at c =
    field_past _ _ c.if-line-at.true

pub returns : goal.returns
returns c =
    let line = c.args.line.now in
    let at = c.args.at in
    field_word line at c.leading.result c.leading-2.result _ c.leading.ensures.count c.leading-2.ensures.count (sym c.in_ok-n.was ∙ c.number_in.ensures)

pub returns-in_err-n : goal.returns-in_err-n
returns-in_err-n c =
    let line = c.args.line.now in
    let at = c.args.at in
    rw c.from_residual.ensures (field_word line at c.leading.result c.leading-2.result _ c.leading.ensures.count c.leading-2.ensures.count (sym c.in_err-n.was ∙ c.number_in.ensures))
