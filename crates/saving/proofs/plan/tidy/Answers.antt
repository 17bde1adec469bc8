-- `saving::plan::tidy` meets its contract. Assumes nothing.
use mathlib.Core.Path.{sym, ◌∙◌}
use borrow.Author.Tests.{lt-ltb, le-ltb}
use Rattle.saving.specs.Plan.{tidied}
use Rattle.saving.proofs.plan.tidy.Goals as goal

pub returns-then-not-says : goal.returns-then-not-says
unfolding tidied
returns-then-not-says c =
    rw (sym c.says.ensures ∙ c.if-not-says.true)

pub returns-then-b-k : goal.returns-then-b-k
unfolding tidied
returns-then-b-k c =
    rw (sym c.says.ensures ∙ c.if-not-says.false, lt-ltb _ _ c.if-b-k.true)

pub returns : goal.returns
unfolding tidied
returns c =
    rw (sym c.says.ensures ∙ c.if-not-says.false, le-ltb _ _ c.if-b-k.false)
