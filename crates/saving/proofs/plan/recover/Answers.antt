-- `saving::plan::recover` meets its contract: each answer is the step of its number. Assumes nothing.
use mathlib.Core.Path.{sym, ◌∙◌}
use mathlib.Core.Bool.{true, false}
use borrow.Author.Tests.{lt-ltb, le-ltb}
use Rattle.saving.proofs.Plans.{recover_first, recover_below, recover_above, recover_new_commit, recover_commit, recover_end}
use native.Mathlib.Omega.{arith}
use Rattle.saving.proofs.plan.recover.Goals as goal

pub returns-then-i-eq0 : goal.returns-then-i-eq0
returns-then-i-eq0 c =
    recover_first _ _ _ c.if-i-eq0.true

pub returns-then-b-lt-BLOCKS : goal.returns-then-b-lt-BLOCKS
returns-then-b-lt-BLOCKS c =
    c.tidy.ensures ∙ recover_below _ _ _ (omega arith) c.if-b-lt-BLOCKS.true

pub returns-then-says : goal.returns-then-says
returns-then-says c =
    recover_new_commit _ _ _ true (omega arith) (sym c.says.ensures ∙ c.if-says.true)

pub returns-then-b-eq-BLOCKS : goal.returns-then-b-eq-BLOCKS
returns-then-b-eq-BLOCKS c =
    recover_new_commit _ _ _ false (omega arith) (sym c.says.ensures ∙ c.if-says.false)

pub returns-then-b-eq17 : goal.returns-then-b-eq17
returns-then-b-eq17 c =
    recover_above _ _ _ 1 (omega arith)

pub returns-then-k-gt0 : goal.returns-then-k-gt0
returns-then-k-gt0 c =
    recover_commit _ _ _ true (omega arith) (lt-ltb _ _ c.if-k-gt0.true)

pub returns-then-b-eq18 : goal.returns-then-b-eq18
returns-then-b-eq18 c =
    recover_commit _ _ _ false (omega arith) (le-ltb _ _ c.if-k-gt0.false)

pub returns-then-b-eq19 : goal.returns-then-b-eq19
returns-then-b-eq19 c =
    recover_above _ _ _ 3 (omega arith)

pub returns : goal.returns
returns c =
    recover_end _ _ _ (omega arith)
