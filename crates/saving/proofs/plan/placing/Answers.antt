-- `saving::plan::placing` meets its contract: each answer is the step of its number. Assumes nothing.
use Rattle.saving.proofs.Plans.{placing_below, placing_above, placing_end}
use native.Mathlib.Omega.{arith}
use Rattle.saving.proofs.plan.placing.Goals as goal

pub returns-then-j-k : goal.returns-then-j-k
returns-then-j-k c =
    placing_below _ _ c.if-j-k.true

pub returns-then-l-eq0 : goal.returns-then-l-eq0
returns-then-l-eq0 c =
    placing_above _ _ 0 c.if-j-k.false c.if-l-eq0.true

pub returns-then-l-eq1 : goal.returns-then-l-eq1
returns-then-l-eq1 c =
    placing_above _ _ 1 c.if-j-k.false c.if-l-eq1.true

pub returns-then-l-eq2 : goal.returns-then-l-eq2
returns-then-l-eq2 c =
    placing_above _ _ 2 c.if-j-k.false c.if-l-eq2.true

pub returns : goal.returns
returns c =
    placing_end _ _ (omega arith)
