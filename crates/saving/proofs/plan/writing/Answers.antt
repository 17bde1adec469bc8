-- `saving::plan::writing` meets its contract: each answer is the step of its number. Assumes nothing.
use mathlib.Core.Path.{◌∙◌}
use Rattle.saving.proofs.Plans.{writing_below, writing_above, writing_placing}
use native.Mathlib.Omega.{arith}
use Rattle.saving.proofs.plan.writing.Goals as goal

pub returns-then-i-k : goal.returns-then-i-k
returns-then-i-k c =
    writing_below _ _ c.if-i-k.true

pub returns-then-j-eq0 : goal.returns-then-j-eq0
returns-then-j-eq0 c =
    writing_above _ _ 0 c.if-i-k.false c.if-j-eq0.true

pub returns-then-j-eq1 : goal.returns-then-j-eq1
returns-then-j-eq1 c =
    writing_above _ _ 1 c.if-i-k.false c.if-j-eq1.true

pub returns-then-j-eq2 : goal.returns-then-j-eq2
returns-then-j-eq2 c =
    writing_above _ _ 2 c.if-i-k.false c.if-j-eq2.true

pub returns-then-j-eq3 : goal.returns-then-j-eq3
returns-then-j-eq3 c =
    writing_above _ _ 3 c.if-i-k.false c.if-j-eq3.true

pub returns : goal.returns
returns c =
    c.placing.ensures ∙ writing_placing _ _ _ c.if-i-k.false (omega arith)
