-- `commands::command::oracle_of` meets its contract. Assumes nothing.
use mathlib.Core.Path.{sym, ◌∙◌}
use Rattle.model.specs.Text.{bytes}
use Rattle.commands.specs.Commands.{oracle_word_in}
use Rattle.commands.proofs.command.oracle_of.Goals as goal

pub returns-then-same : goal.returns-then-same
unfolding oracle_word_in bytes
returns-then-same c =
    rw (sym c.same.ensures ∙ c.if-same.true)

pub returns-then-same-2 : goal.returns-then-same-2
unfolding oracle_word_in bytes
returns-then-same-2 c =
    rw (sym c.same.ensures ∙ c.if-same.false, sym c.same-2.ensures ∙ c.if-same-2.true)

pub returns-then-same-3 : goal.returns-then-same-3
unfolding oracle_word_in bytes
returns-then-same-3 c =
    rw (sym c.same.ensures ∙ c.if-same.false, sym c.same-2.ensures ∙ c.if-same-2.false, sym c.same-3.ensures ∙ c.if-same-3.true)

pub returns : goal.returns
unfolding oracle_word_in bytes
returns c =
    rw (sym c.same.ensures ∙ c.if-same.false, sym c.same-2.ensures ∙ c.if-same-2.false, sym c.same-3.ensures ∙ c.if-same-3.false)
