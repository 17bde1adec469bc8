-- `cells::walk::visit` meets its contract: a marked place changes nothing, another is marked and queued. Assumes nothing.
use borrow.Author.Tests.{eq-eqb, ne_eqb}
use native.Mathlib.Omega.{arith}
use Rattle.cells.proofs.walk.visit.Goals as goal

pub returns-then-marks-i-ne0 : goal.returns-then-marks-i-ne0
returns-then-marks-i-ne0 c =
    let e = ne_eqb _ _ c.if-marks-i-ne0.true in
    record { marks = simp e; order = simp e; tail = simp e }

pub bounds-order-tail : goal.bounds-order-tail
bounds-order-tail c =
    omega (arith, c.requires.2 c.if-marks-i-ne0.false)

pub returns : goal.returns
returns c =
    let e = eq-eqb _ _ c.if-marks-i-ne0.false in
    record { marks = simp e; order = simp e; tail = simp e }
