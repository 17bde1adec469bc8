-- `codec::third::read_critical` meets its contract: the other block and the label, each read where the one before ends.
-- Assumes nothing.
use mathlib.Core.Path.{sym, ◌∙◌}
use Rattle.model.specs.Layouts.{at_most}
use Rattle.groups.specs.Slices.{label_code}
use Rattle.groups.proofs.Ends.{bad_at}
use Rattle.groups.proofs.Labels.{at_most_bound}
use Rattle.codec.proofs.Taking.{took_at_most}
use Rattle.codec.proofs.Passing.{took_label}
use Rattle.codec.proofs.ThirdReads.{no_other, no_label, critical_read}
use native.Mathlib.Omega.{arith}
use Rattle.codec.proofs.third.read_critical.Goals as goal

pub returns-in_err-other : goal.returns-in_err-other
returns-in_err-other c =
    rw c.from_residual.ensures (
    no_other (record { value = bad_at (at_most 15) _ _ (sym c.in_err-other.was ∙ c.read_at_most.ensures) }))

pub returns-in_err-label : goal.returns-in_err-label
returns-in_err-label c =
    rw c.from_residual-in_err-label.ensures (
    no_label (took_at_most 15 (sym c.in_ok-other.was ∙ c.read_at_most.ensures))
    (record { value = bad_at label_code _ _ (sym c.in_err-label.was ∙ c.read_label.ensures) }))

pub critical_with-requires : goal.critical_with-requires
critical_with-requires c =
    omega (arith, at_most_bound 15 _ _ _ (took_at_most 15 (sym c.in_ok-other.was ∙ c.read_at_most.ensures)).value)

pub returns : goal.returns
returns c =
    critical_read _ (took_at_most 15 (sym c.in_ok-other.was ∙ c.read_at_most.ensures)) (took_label (sym c.in_ok-label.was ∙ c.read_label.ensures))
    c.critical_with.ensures
