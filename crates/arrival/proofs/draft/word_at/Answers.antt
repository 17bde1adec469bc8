-- `arrival::draft::word_at` meets its contract.
-- Assumes nothing.
use mathlib.Core.Path.{sym, ◌∙◌}
use Rattle.arrival.proofs.Drafting.{word_value, word_there}
use Rattle.arrival.proofs.draft.word_at.Goals as goal

pub returns-in_default : goal.returns-in_default
returns-in_default c =
    absurd (word_there c.args.message.now c.args.at c.requires (sym c.read_coordinate.ensures ∙ c.in_default.is))

pub returns : goal.returns
returns c =
    word_value c.args.message.now c.args.at c.requires (sym c.read_coordinate.ensures ∙ c.in-Some.is)
