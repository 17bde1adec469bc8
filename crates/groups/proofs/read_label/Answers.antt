-- `groups::read_label` meets its contract. The label's three numbers, each read where the one before ends. Assumes nothing.
use mathlib.Core.Path.{sym, ◌∙◌}
use native.Mathlib.Omega.{arith}
use Rattle.model.specs.Layouts.{at_most, group}
use Rattle.groups.proofs.Ends.{bad_at, group_at, at_most_at}
use Rattle.groups.proofs.Labels.{group_bound, at_most_bound, no_maker, no_number, no_position, label_code_read}
use Rattle.groups.proofs.read_label.Goals as goal

pub returns-in_err-maker : goal.returns-in_err-maker
returns-in_err-maker c =
    rw c.from_residual.ensures (
    no_maker _ _ (bad_at (at_most 15) _ _ (sym c.in_err-maker.was ∙ c.read_at_most.ensures)))

pub returns-in_err-number : goal.returns-in_err-number
returns-in_err-number c =
    rw c.from_residual-in_err-number.ensures (
    no_number _ _ (at_most_at 15 (sym c.in_ok-maker.was ∙ c.read_at_most.ensures))
    (bad_at group _ _ (sym c.in_err-number.was ∙ c.read_group.ensures)))

pub returns-in_err-position : goal.returns-in_err-position
returns-in_err-position c =
    rw c.from_residual-in_err-position.ensures (
    no_position _ _ (at_most_at 15 (sym c.in_ok-maker.was ∙ c.read_at_most.ensures))
    (group_at (sym c.in_ok-number.was ∙ c.read_group.ensures))
    (bad_at (at_most 4095) _ _ (sym c.in_err-position.was ∙ c.read_at_most-2.ensures)))

pub overflow_mul-result : goal.overflow_mul-result
overflow_mul-result c =
    omega (arith, at_most_bound 15 _ _ _ (at_most_at 15 (sym c.in_ok-maker.was ∙ c.read_at_most.ensures)).value)

pub overflow_add-result : goal.overflow_add-result
overflow_add-result c =
    omega (
      arith,
      at_most_bound 15 _ _ _ (at_most_at 15 (sym c.in_ok-maker.was ∙ c.read_at_most.ensures)).value,
      group_bound _ _ _ (group_at (sym c.in_ok-number.was ∙ c.read_group.ensures)).value,
    )

pub overflow_mul-result-2 : goal.overflow_mul-result-2
overflow_mul-result-2 c =
    omega (
      arith,
      at_most_bound 15 _ _ _ (at_most_at 15 (sym c.in_ok-maker.was ∙ c.read_at_most.ensures)).value,
      group_bound _ _ _ (group_at (sym c.in_ok-number.was ∙ c.read_group.ensures)).value,
    )

pub overflow_add-result-2 : goal.overflow_add-result-2
overflow_add-result-2 c =
    omega (
      arith,
      at_most_bound 15 _ _ _ (at_most_at 15 (sym c.in_ok-maker.was ∙ c.read_at_most.ensures)).value,
      group_bound _ _ _ (group_at (sym c.in_ok-number.was ∙ c.read_group.ensures)).value,
      at_most_bound 4095 _ _ _ (at_most_at 4095 (sym c.in_ok-position.was ∙ c.read_at_most-2.ensures)).value,
    )

pub returns : goal.returns
returns c =
    label_code_read _ _ (at_most_at 15 (sym c.in_ok-maker.was ∙ c.read_at_most.ensures))
    (group_at (sym c.in_ok-number.was ∙ c.read_group.ensures))
    (at_most_at 4095 (sym c.in_ok-position.was ∙ c.read_at_most-2.ensures))
