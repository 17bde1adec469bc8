-- `saving::plan::save` meets its contract. Assumes nothing.
use mathlib.Core.Path.{◌∙◌}
use Rattle.saving.proofs.Plans.{save_first, save_later}
use native.Mathlib.Omega.{arith}
use Rattle.saving.proofs.plan.save.Goals as goal

pub returns-then-i-eq0 : goal.returns-then-i-eq0
returns-then-i-eq0 c =
    save_first _ _ c.if-i-eq0.true

pub returns : goal.returns
returns c =
    c.writing.ensures ∙ save_later _ _ (omega arith)
