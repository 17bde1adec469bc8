-- `sound::questions::labels_right` meets its contract: labels one by one, then all of them together.
-- Assumes nothing.
use mathlib.Core.Path.{sym, ◌∙◌}
use Rattle.columns.proofs.Labels.{labels_are}
use Rattle.sound.proofs.OneDart.{and_stop, and_go}
use Rattle.sound.proofs.questions.labels_right.Goals as goal

pub own_labels-requires : goal.own_labels-requires
own_labels-requires c =
    (c.requires.block_in_bounds.1.few, c.requires.block_in_bounds.0)

pub returns-then-not-own_labels : goal.returns-then-not-own_labels
returns-then-not-own_labels c =
    and_stop _ (sym c.own_labels.ensures ∙ c.if-not-own_labels.true) ∙ labels_are _ c.requires.block_in_bounds.1

pub labels_differ-requires : goal.labels_differ-requires
labels_differ-requires c = (
  c.requires.block_in_bounds.1.few,
  c.requires.block_in_bounds.0,
  c.requires.block_in_bounds_2.0,
  c.requires.block_in_bounds_2.1,
  c.requires.block_in_bounds_2.2,
)

pub returns : goal.returns
returns c =
    and_go (sym c.own_labels.ensures ∙ c.if-not-own_labels.false) c.labels_differ.ensures ∙ labels_are _ c.requires.block_in_bounds.1
