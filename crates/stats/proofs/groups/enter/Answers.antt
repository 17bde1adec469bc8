-- `stats::groups::enter` meets its contract. Assumes nothing.
use borrow.Author.Tests.{eq-eqb, ne_eqb}
use native.Mathlib.Omega.{arith}
use Rattle.stats.proofs.groups.enter.Goals as goal

pub returns-then-groups-i-ne0 : goal.returns-then-groups-i-ne0
returns-then-groups-i-ne0 c =
    let e = ne_eqb _ _ c.if-groups-i-ne0.true in
    record { groups = simp e; order = simp e; tail = simp e }

pub bounds-order-tail : goal.bounds-order-tail
bounds-order-tail c =
    omega (arith, c.requires.3 c.if-groups-i-ne0.false)

pub returns : goal.returns
returns c =
    let e = eq-eqb _ _ c.if-groups-i-ne0.false in
    record { groups = simp e; order = simp e; tail = simp e }
