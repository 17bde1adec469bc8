use mathlib.Core.Path.{sym, ◌∙◌}
use Rattle.commands.proofs.Viewing.{bit_small, viewing_none, viewing_start, viewing_ends, viewing_goes_on, viewing_passes, viewing_over, ends_is, goes_on_within}
use native.Mathlib.Omega.{arith}
use Rattle.commands.proofs.viewers.viewers_in.Goals as goal
use Rattle.commands.proofs.viewers.viewers_in.Goals.{then-goes_on, else-goes_on}

pub returns-then-same : goal.returns-then-same
returns-then-same c =
    viewing_none _ (sym c.same.ensures ∙ c.if-same.true)

pub loop-b-init : goal.loop-b-init
loop-b-init c =
    viewing_start _ (sym c.same.ensures ∙ c.if-same.false)

pub overflow_add-result : goal.overflow_add-result
overflow_add-result c =
    omega (arith, bit_small c.loop-b.b (omega arith), c.loop-b.invariant.below, c.bit.ensures)

pub returns-then-is_number : goal.returns-then-is_number
returns-then-is_number c =
    let text = c.args.text.now in
    rw c.bit.ensures (viewing_ends c.loop-b.invariant (omega arith) (ends_is text c.loop-b.at c.loop-b.b c.is_number.ensures ∙ c.if-is_number.true))

pub overflow_add-bits : goal.overflow_add-bits
overflow_add-bits c =
    omega (arith, bit_small c.loop-b.b (omega arith), c.loop-b.invariant.below, c.bit-bits.ensures)

pub overflow_add-at : goal.overflow_add-at
overflow_add-at c =
    let text = c.args.text.now in
    omega (arith, c.size-at.ensures, goes_on_within text c.loop-b.at c.loop-b.b c.loop-b.invariant.within (sym c.goes_on.ensures ∙ c.if-goes_on.true))

pub loop-b-preserved : goal.loop-b-preserved
loop-b-preserved c =
    let text = c.args.text.now in
    let past = ends_is text c.loop-b.at c.loop-b.b c.is_number.ensures ∙ c.if-is_number.false in
    elim c.if-goes_on.branch [
      | then-goes_on w ↦
          let goes_on = sym c.goes_on.ensures ∙ w.if-goes_on.true in
          rw (w.bits-is, w.at-is, w.bit-bits.ensures, w.size-at.ensures)
          (viewing_goes_on c.loop-b.invariant (omega arith) past goes_on (goes_on_within text c.loop-b.at c.loop-b.b c.loop-b.invariant.within goes_on))
      | else-goes_on w ↦
          rw (w.bits-is, w.at-is) (viewing_passes c.loop-b.invariant (omega arith) past (sym c.goes_on.ensures ∙ w.if-goes_on.false))
    ]

pub returns : goal.returns
returns c =
    viewing_over c.loop-b.invariant c.loop-b-test.false
