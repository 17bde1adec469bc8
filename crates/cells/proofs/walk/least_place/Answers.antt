use mathlib.Core.Path.{refl}
use Rattle.cells.proofs.Resets.{lowest_first, lower_next, higher_next}
use native.Mathlib.Omega.{arith}
use Rattle.cells.proofs.walk.least_place.Goals as goal
use Rattle.cells.proofs.walk.least_place.Goals.{then-p-low, else-p-low}

pub loop-i-init : goal.loop-i-init
loop-i-init c =
    (omega (arith, c.requires.0), lowest_first c.args.order.now (omega (arith, c.requires.0, c.requires.2)))

pub loop-i-preserved : goal.loop-i-preserved
loop-i-preserved c =
    let order = c.args.order.now in
    elim c.if-p-low.branch [
      | then-p-low w ↦ (
        omega (arith, c.loop-i-test.true),
        rw w.low-is (lower_next order c.loop-i.i c.loop-i.invariant.1 (omega (arith, c.loop-i-test.true, c.requires.2)) refl w.if-p-low.true),
      )
      | else-p-low w ↦ (
        omega (arith, c.loop-i-test.true),
        rw w.low-is (higher_next order c.loop-i.i c.loop-i.invariant.1 (omega (arith, c.loop-i-test.true, c.requires.2)) refl (omega (arith, w.if-p-low.false))),
      )
    ]
