use mathlib.Core.Path.{ap}
use lib.ListN.{length}
use Rattle.codec.proofs.EntryLaws.{stored_as}
use Rattle.outbox.proofs.Running.{running_start, running_space, running_step}
use Rattle.outbox.proofs.BytesLaws.{label_is}
use native.Mathlib.Omega.{arith}
use Rattle.outbox.proofs.parts.put_labels.Goals as goal

pub loop-k-init : goal.loop-k-init
loop-k-init c =
    running_start _ _ _ _ c.requires.size_bound

pub put_label-at-requires : goal.put_label-at-requires
put_label-at-requires c =
    let block = c.args.block.now in
    let order = c.args.order.now in
    let first = c.args.start.0 in
    omega
    (arith, ap length (label_is block order first c.loop-k.k c.field.result c.field.ensures), running_space c.loop-k.invariant c.loop-k-test.true)

pub loop-k-preserved : goal.loop-k-preserved
loop-k-preserved c =
    let block = c.args.block.now in
    let order = c.args.order.now in
    let first = c.args.start.0 in
    running_step c.loop-k.invariant c.loop-k-test.true
    (stored_as (label_is block order first c.loop-k.k c.field.result c.field.ensures) c.put_label-at.ensures)
