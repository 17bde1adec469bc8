-- `stats::critical::is_critical` meets its contract. Assumes nothing.
use mathlib.Core.Path.{ap, ◌∙◌}
use Rattle.model.specs.Image.{is_critical_word}
use Rattle.stats.proofs.critical.is_critical.Goals as goal

pub returns : goal.returns
returns c =
    c.is_critical.ensures ∙ ap is_critical_word c.field.ensures
