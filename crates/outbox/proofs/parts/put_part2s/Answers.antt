use mathlib.Core.Path.{ap}
use lib.ListN.{length}
use Rattle.answers.proofs.Questions.{said_no, said_yes}
use Rattle.codec.proofs.EntryLaws.{stored_as}
use Rattle.outbox.proofs.Running.{running_start, running_space, running_step, running_skip}
use Rattle.outbox.proofs.BytesLaws.{part2_none, part2_one}
use native.Mathlib.Omega.{arith}
use Rattle.outbox.proofs.parts.put_part2s.Goals as goal

pub loop-f-init : goal.loop-f-init
loop-f-init c =
    running_start _ _ _ _ c.requires.count_bound

pub loop-f-preserved-then-not-critical_with : goal.loop-f-preserved-then-not-critical_with
loop-f-preserved-then-not-critical_with c =
    let block = c.args.block.now in
    let to = c.args.to in
    let order = c.args.order.now in
    let starts = c.args.starts.now in
    running_skip c.loop-f.invariant c.loop-f-test.true
    (part2_none block to order starts c.loop-f.f (said_no c.critical_with.ensures c.if-not-critical_with.true))

pub put_part2-at-requires : goal.put_part2-at-requires
put_part2-at-requires c =
    let block = c.args.block.now in
    let to = c.args.to in
    let order = c.args.order.now in
    let starts = c.args.starts.now in (
      omega (arith, c.requires.block_in_bounds.1.index_small c.loop-f.f c.loop-f-test.true),
      omega (
        arith,
        ap length
            (part2_one block to order starts c.loop-f.f c.field.result (said_yes c.critical_with.ensures c.if-not-critical_with.false) c.field.ensures),
        running_space c.loop-f.invariant c.loop-f-test.true,
      ),
    )

pub loop-f-preserved : goal.loop-f-preserved
loop-f-preserved c =
    let block = c.args.block.now in
    let to = c.args.to in
    let order = c.args.order.now in
    let starts = c.args.starts.now in
    running_step c.loop-f.invariant c.loop-f-test.true
    (stored_as (part2_one block to order starts c.loop-f.f c.field.result (said_yes c.critical_with.ensures c.if-not-critical_with.false) c.field.ensures)
    c.put_part2-at.ensures)
