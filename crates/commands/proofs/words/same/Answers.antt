-- `commands::words::same` meets its contract. Assumes nothing.
use mathlib.Core.Path.{◌∙◌}
use Rattle.commands.proofs.Scans.{same_by_bytes}
use Rattle.commands.proofs.words.same.Goals as goal

pub returns : goal.returns
returns c =
    c.eq.ensures ∙ same_by_bytes _ _
