-- `arrival::serials::in_gap` meets its contract.
-- Assumes nothing.
use borrow.Author.Tests.{ltb-true}
use mathlib.Core.Path.{sym}
use mathlib.Core.Bool.{true≢false}
use Rattle.arrival.proofs.Eighteen.{gap_none}
use native.Mathlib.Omega.{arith}
use Rattle.arrival.proofs.serials.in_gap.Goals as goal

pub returns-then-not-is_past : goal.returns-then-not-is_past
returns-then-not-is_past c =
    (λ e. absurd (true≢false (sym e)), λ e. let h = c.is_past.ensures.1 c.if-not-is_past.true in omega (arith, h, c.requires.2))

pub returns-then-gap-n : goal.returns-then-gap-n
returns-then-gap-n c =
    let serial = c.args.serial in (
      λ e. gap_none c.requires.3 c.requires.2 (c.is_past.ensures.0 c.if-not-is_past.false)
          (λ h. let l = ltb-true serial c.field.result e in omega (arith, l, c.field.ensures)),
      λ e. omega (arith, c.if-gap-n.true),
    )

pub returns : goal.returns
returns c = (
  λ e. gap_none c.requires.3 c.requires.2 (c.is_past.ensures.0 c.if-not-is_past.false)
      (λ h. absurd (omega (arith, h, c.if-gap-n.false))),
  λ e. absurd (true≢false e),
)
