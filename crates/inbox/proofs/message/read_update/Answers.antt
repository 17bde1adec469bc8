-- `inbox::message::read_update` meets its contract: what is missing, or the outline. Its labels are those of a message with no faces.
-- Assumes nothing.
use mathlib.Core.Path.{sym, ◌∙◌}
use mathlib.Core.List.{[]}
use Rattle.model.specs.Layouts.{at_most}
use Rattle.model.specs.Messages.{label}
use Rattle.groups.proofs.Ends.{bad_at}
use Rattle.codec.proofs.Taking.{took_at_most}
use Rattle.inbox.proofs.Passing.{no_sizes}
use Rattle.inbox.proofs.Outlining.{counted_missing, counted_there, update_bad, no_block, no_labels, update_more, update_good}
use Rattle.inbox.proofs.message.read_update.Goals as goal

pub returns-in_err-block : goal.returns-in_err-block
returns-in_err-block c =
    rw c.from_residual.ensures (
    update_bad (no_block c.requires (bad_at (at_most 15) _ _ (sym c.in_err-block.was ∙ c.read_at_most.ensures))))

pub returns-in_err-labels : goal.returns-in_err-labels
returns-in_err-labels c =
    rw c.from_residual-in_err-labels.ensures (
    update_bad
    (no_labels c.requires (took_at_most 15 (sym c.in_ok-block.was ∙ c.read_at_most.ensures))
    (counted_missing label c.in_err-labels.was (c.counted_part.ensures [] (no_sizes _)))))

pub returns-then-labels-s : goal.returns-then-labels-s
returns-then-labels-s c =
    update_bad
    (update_more c.requires (took_at_most 15 (sym c.in_ok-block.was ∙ c.read_at_most.ensures)) _ (counted_there label c.in_ok-labels.was (c.counted_part.ensures [] (no_sizes _))) c.if-labels-s.true)

pub returns : goal.returns
returns c =
    update_good c.requires (took_at_most 15 (sym c.in_ok-block.was ∙ c.read_at_most.ensures)) _
    (counted_there label c.in_ok-labels.was (c.counted_part.ensures [] (no_sizes _))) c.if-labels-s.false
