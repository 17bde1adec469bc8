-- `commands::command::option_of` meets its contract. Assumes nothing.
use mathlib.Core.Path.{sym, ◌∙◌}
use Rattle.model.specs.Text.{bytes}
use Rattle.commands.specs.Commands.{option_word_in}
use Rattle.commands.proofs.command.option_of.Goals as goal

pub returns-then-same : goal.returns-then-same
unfolding option_word_in bytes
returns-then-same c =
    rw (sym c.same.ensures ∙ c.if-same.true)

pub returns-then-same-2 : goal.returns-then-same-2
unfolding option_word_in bytes
returns-then-same-2 c =
    rw (sym c.same.ensures ∙ c.if-same.false, sym c.same-2.ensures ∙ c.if-same-2.true)

pub returns : goal.returns
unfolding option_word_in bytes
returns c =
    rw (sym c.same.ensures ∙ c.if-same.false, sym c.same-2.ensures ∙ c.if-same-2.false)
