-- `arrival::serials::is_past` meets its contract.
-- Assumes nothing.
use borrow.Author.Tests.{ltb-true}
use mathlib.Core.Bool.{true≢false}
use native.Mathlib.Omega.{arith}
use Rattle.arrival.proofs.serials.is_past.Goals as goal

pub returns-then-past-eq0 : goal.returns-then-past-eq0
returns-then-past-eq0 c =
    (λ e h. omega (arith, h, c.if-past-eq0.true), λ e. absurd (true≢false e))

pub returns : goal.returns
returns c =
    (λ e h. let l = ltb-true c.field.result c.args.serial e in omega (arith, l, c.field.ensures), λ e. omega (arith, c.if-past-eq0.false))
