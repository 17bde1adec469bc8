use Rattle.outbox.proofs.LeastLaws.{least_start, least_step}
use native.Mathlib.Omega.{arith}
use Rattle.outbox.proofs.labels.least_code.Goals as goal

pub loop-k-init : goal.loop-k-init
loop-k-init c =
    (omega arith, omega (arith, c.requires.1), least_start c.args.block.now c.args.order.now c.args.start.0 _ c.field-least.ensures)

pub loop-k-preserved : goal.loop-k-preserved
loop-k-preserved c =
    let block = c.args.block.now in
    let order = c.args.order.now in
    let first = c.args.start.0 in (
      omega arith,
      omega (arith, c.loop-k-test.true),
      least_step block order first c.loop-k.k c.loop-k.invariant.0 c.loop-k.invariant.2 c.field.ensures c.lesser-least.ensures,
    )
