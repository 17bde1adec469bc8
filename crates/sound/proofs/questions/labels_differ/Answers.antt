-- `sound::questions::labels_differ` meets its contract: what `gather` gathers is what `apart` is asked of.
-- Assumes nothing.
use mathlib.Core.Path.{ap, ◌∙◌}
use Rattle.model.specs.Lists.{distinct}
use Rattle.sound.proofs.questions.labels_differ.Goals as goal

pub returns : goal.returns
returns c =
    c.apart.ensures ∙ ap distinct c.gather-c.ensures.1
