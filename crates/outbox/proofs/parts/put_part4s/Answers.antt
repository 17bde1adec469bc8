use mathlib.Core.Path.{ap}
use lib.ListN.{length}
use Rattle.answers.proofs.Questions.{said_no, said_yes}
use Rattle.codec.proofs.EntryLaws.{stored_as}
use Rattle.outbox.proofs.Running.{running_start, running_space, running_step, running_skip}
use Rattle.outbox.proofs.BytesLaws.{listed_part, end_le, some_darts, part4_none, part4_one}
use native.Mathlib.Omega.{arith}
use Rattle.outbox.proofs.parts.put_part4s.Goals as goal

pub loop-f-init : goal.loop-f-init
loop-f-init c =
    running_start _ _ _ _ c.requires.count_bound

pub loop-f-preserved-then-not-critical_beside : goal.loop-f-preserved-then-not-critical_beside
loop-f-preserved-then-not-critical_beside c =
    let block = c.args.block.now in
    let to = c.args.to in
    let order = c.args.order.now in
    let starts = c.args.starts.now in
    let darts = c.args.darts in
    let count = c.args.count in
    running_skip c.loop-f.invariant c.loop-f-test.true
    (part4_none block to order starts c.loop-f.f darts count (said_no c.critical_beside.ensures c.if-not-critical_beside.true))

pub loop-f-preserved : goal.loop-f-preserved
loop-f-preserved c =
    let block = c.args.block.now in
    let to = c.args.to in
    let order = c.args.order.now in
    let starts = c.args.starts.now in
    let darts = c.args.darts in
    let count = c.args.count in
    running_step c.loop-f.invariant c.loop-f-test.true
    (stored_as
    (part4_one block to order starts c.loop-f.f darts count c.face_end-end.result (said_yes c.critical_beside.ensures c.if-not-critical_beside.false)
    c.face_end-end.ensures) c.put_beside-at.ensures)

pub put_beside-at-requires : goal.put_beside-at-requires
put_beside-at-requires c =
    let block = c.args.block.now in
    let to = c.args.to in
    let order = c.args.order.now in
    let starts = c.args.starts.now in
    let darts = c.args.darts in
    let count = c.args.count in
    record {
      darts_listed = (
        listed_part c.requires.darts_listed.0 _
            (end_le c.requires.darts_listed.1 c.loop-f.f c.face_end-end.result c.loop-f-test.true c.face_end-end.ensures),
        some_darts c.requires.darts_listed.1 c.loop-f.f c.face_end-end.result c.loop-f-test.true c.face_end-end.ensures,
      );
      size_bound = omega (
        arith,
        ap length
            (part4_one block to order starts c.loop-f.f darts count c.face_end-end.result (said_yes c.critical_beside.ensures c.if-not-critical_beside.false)
            c.face_end-end.ensures),
        running_space c.loop-f.invariant c.loop-f-test.true,
      );
    }
