-- `codec::third::read_third` meets its contract: the kind decides what follows it.
-- Assumes nothing.
use mathlib.Core.Path.{sym, ◌∙◌}
use Rattle.model.specs.Layouts.{serial, at_most}
use Rattle.groups.proofs.Ends.{bad_at}
use Rattle.codec.proofs.Taking.{took_serial, took_at_most}
use Rattle.codec.proofs.ThirdReads.{kind_is, kind_one, no_kind, free_read, sewn_read, no_sewn}
use Rattle.codec.proofs.third.read_third.Goals as goal

pub returns-in_err-kind : goal.returns-in_err-kind
returns-in_err-kind c =
    rw c.from_residual.ensures (
    no_kind (record { value = bad_at (at_most 2) _ _ (sym c.in_err-kind.was ∙ c.read_at_most.ensures) }))

pub returns-then-kind-eq-FREE : goal.returns-then-kind-eq-FREE
returns-then-kind-eq-FREE c =
    let kind = took_at_most 2 (sym c.in_ok-kind.was ∙ c.read_at_most.ensures) in
    kind_is 0 kind c.if-kind-eq-FREE.true (free_read _ _ kind.within)

pub returns-then-kind-eq2 : goal.returns-then-kind-eq2
returns-then-kind-eq2 c =
    kind_is 2 (took_at_most 2 (sym c.in_ok-kind.was ∙ c.read_at_most.ensures)) c.if-kind-eq2.true c.read_critical.ensures

pub returns-in_err-sewn : goal.returns-in_err-sewn
returns-in_err-sewn c =
    rw c.from_residual-in_err-sewn.ensures (
    let kind = took_at_most 2 (sym c.in_ok-kind.was ∙ c.read_at_most.ensures) in
    kind_is 1 kind (kind_one kind c.if-kind-eq-FREE.false c.if-kind-eq2.false)
    (no_sewn (record { value = bad_at serial _ _ (sym c.in_err-sewn.was ∙ c.read_serial.ensures) })))

pub returns : goal.returns
returns c =
    let kind = took_at_most 2 (sym c.in_ok-kind.was ∙ c.read_at_most.ensures) in
    kind_is 1 kind (kind_one kind c.if-kind-eq-FREE.false c.if-kind-eq2.false)
    (sewn_read (took_serial (sym c.in_ok-sewn.was ∙ c.read_serial.ensures)))
