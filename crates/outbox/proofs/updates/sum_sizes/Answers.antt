use Rattle.outbox.proofs.UpdateLaws.{sizes_start, sizes_more}
use native.Mathlib.Omega.{arith}
use Rattle.outbox.proofs.updates.sum_sizes.Goals as goal

pub loop-k-init : goal.loop-k-init
loop-k-init c =
    (omega arith, sizes_start _ _ _, omega arith)

pub loop-k-preserved : goal.loop-k-preserved
loop-k-preserved c =
    let to = c.args.to in
    let labels = c.args.labels.now in
    let bytes = c.args.bytes.now in (
      omega (arith, c.loop-k-test.true),
      sizes_more to labels bytes c.loop-k.k c.loop-k.invariant.1 c.update_size-size.ensures.0,
      omega (arith, c.loop-k.invariant.2, c.update_size-size.ensures.1),
    )
