-- `inbox::parts::pass_part4` meets its contract: an index of a dart, a block, and as many labels as the face has darts.
-- Assumes nothing.
use mathlib.Core.Path.{sym, ◌∙◌}
use Rattle.model.specs.Layouts.{group, at_most}
use Rattle.groups.proofs.Ends.{bad_at}
use Rattle.codec.proofs.Taking.{took_group, took_at_most}
use Rattle.inbox.proofs.Passing.{part4_none, part4_outside, part4_alone, part4_pass}
use native.Mathlib.Omega.{arith}
use Rattle.inbox.proofs.parts.pass_part4.Goals as goal

pub returns-in_err-index : goal.returns-in_err-index
returns-in_err-index c =
    rw c.from_residual.ensures (
    λ fs z. part4_none fs c.args.s.now c.args.at (bad_at group _ _ (sym c.in_err-index.was ∙ c.read_group.ensures)))

pub returns-then-darts-index : goal.returns-then-darts-index
returns-then-darts-index c =
    λ fs z. part4_outside fs (took_group (sym c.in_ok-index.was ∙ c.read_group.ensures)) z (omega (arith, c.if-darts-index.true))

pub returns-in_err-other : goal.returns-in_err-other
returns-in_err-other c =
    rw c.from_residual-in_err-other.ensures (
    λ fs z. part4_alone fs (took_group (sym c.in_ok-index.was ∙ c.read_group.ensures)) z (omega (arith, c.if-darts-index.false))
    (bad_at (at_most 15) _ _ (sym c.in_err-other.was ∙ c.read_at_most.ensures)))

pub pass_labels-requires : goal.pass_labels-requires
pass_labels-requires c =
    (took_at_most 15 (sym c.in_ok-other.was ∙ c.read_at_most.ensures)).within

pub returns : goal.returns
returns c =
    λ fs z. part4_pass fs (took_group (sym c.in_ok-index.was ∙ c.read_group.ensures)) z (omega (arith, c.if-darts-index.false))
    (took_at_most 15 (sym c.in_ok-other.was ∙ c.read_at_most.ensures)) c.size_at-size.ensures c.pass_labels.ensures
