use mathlib.Core.Path.{ap}
use lib.ListN.{length}
use Rattle.answers.proofs.Questions.{said_no, said_yes}
use Rattle.outbox.specs.Bytes.{in_part3}
use Rattle.codec.proofs.EntryLaws.{stored_as}
use Rattle.outbox.proofs.Running.{running_start, running_space, running_step, running_skip, tally_yes, tally_no, tally_grows, tally_from}
use Rattle.outbox.proofs.BytesLaws.{part3_none, part3_one}
use native.Mathlib.Omega.{arith}
use Rattle.outbox.proofs.parts.put_part3s.Goals as goal

pub loop-f-init : goal.loop-f-init
loop-f-init c =
    (running_start _ _ _ _ c.requires.count_bound_2, tally_from _ _)

pub loop-f-preserved-then-not-sewn_away : goal.loop-f-preserved-then-not-sewn_away
loop-f-preserved-then-not-sewn_away c =
    let block = c.args.block.now in
    let marks = c.args.marks.now in
    let counter = c.args.counter in
    let order = c.args.order.now in
    let starts = c.args.starts.now in (
      running_skip c.loop-f.invariant.0 c.loop-f-test.true
          (part3_none block marks counter order starts c.loop-f.f (said_no c.sewn_away.ensures c.if-not-sewn_away.true)),
      omega
          (arith, c.loop-f.invariant.1, tally_no (in_part3 block marks order starts) c.loop-f.f (said_no c.sewn_away.ensures c.if-not-sewn_away.true)),
    )

pub put_part3-at-requires : goal.put_part3-at-requires
put_part3-at-requires c =
    let block = c.args.block.now in
    let marks = c.args.marks.now in
    let order = c.args.order.now in
    let starts = c.args.starts.now in
    let count = c.args.count in
    let counter = c.args.counter in (
      omega (
        arith,
        c.loop-f.invariant.1,
        c.requires.count_bound,
        tally_grows (in_part3 block marks order starts) c.loop-f.f count (omega (arith, c.loop-f-test.true)),
      ),
      omega (arith, c.requires.linked.2.index_small c.loop-f.f c.loop-f-test.true),
      omega (
        arith,
        ap length
            (part3_one block marks counter order starts c.loop-f.f c.loop-f.number (said_yes c.sewn_away.ensures c.if-not-sewn_away.false) c.loop-f.invariant.1),
        running_space c.loop-f.invariant.0 c.loop-f-test.true,
      ),
    )

pub overflow_add-number : goal.overflow_add-number
overflow_add-number c =
    let block = c.args.block.now in
    let marks = c.args.marks.now in
    let order = c.args.order.now in
    let starts = c.args.starts.now in
    let count = c.args.count in
    omega
    (arith, c.loop-f.invariant.1, c.requires.count_bound, tally_grows (in_part3 block marks order starts) c.loop-f.f count (omega (arith, c.loop-f-test.true)))

pub loop-f-preserved : goal.loop-f-preserved
loop-f-preserved c =
    let block = c.args.block.now in
    let marks = c.args.marks.now in
    let counter = c.args.counter in
    let order = c.args.order.now in
    let starts = c.args.starts.now in (
      running_step c.loop-f.invariant.0 c.loop-f-test.true
          (stored_as
          (part3_one block marks counter order starts c.loop-f.f c.loop-f.number (said_yes c.sewn_away.ensures c.if-not-sewn_away.false) c.loop-f.invariant.1)
          c.put_part3-at.ensures),
      omega
          (arith, c.loop-f.invariant.1, tally_yes (in_part3 block marks order starts) c.loop-f.f (said_yes c.sewn_away.ensures c.if-not-sewn_away.false)),
    )
