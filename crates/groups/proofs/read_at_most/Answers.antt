-- `groups::read_at_most` meets its contract. A number was read and passes, or does not, or none was. Assumes nothing.
use mathlib.Core.Path.{sym, ◌∙◌}
use Rattle.groups.proofs.Reading.{most_none, most_within, most_over}
use Rattle.groups.proofs.read_at_most.Goals as goal

pub returns-in_err-v : goal.returns-in_err-v
returns-in_err-v c =
    rw c.from_residual.ensures (
    most_none _ _ _ (sym c.in_err-v.was ∙ c.read_group.ensures))

pub returns-then-v-most : goal.returns-then-v-most
returns-then-v-most c =
    most_within _ _ _ _ _ (sym c.in_ok-v.was ∙ c.read_group.ensures) c.if-v-most.true

pub returns-else-v-most : goal.returns-else-v-most
returns-else-v-most c =
    most_over _ _ _ _ _ (sym c.in_ok-v.was ∙ c.read_group.ensures) c.if-v-most.false
