use mathlib.Core.Path.{ap}
use lib.ListN.{length}
use Rattle.codec.proofs.EntryLaws.{stored_as}
use Rattle.outbox.proofs.Running.{running_start, running_size, running_end, running_space, running_step}
use Rattle.outbox.proofs.BytesLaws.{faces_is, start_le, end_le, listed_part, vertexed_part}
use native.Mathlib.Omega.{arith}
use Rattle.outbox.proofs.first.put_faces.Goals as goal

pub loop-f-init : goal.loop-f-init
loop-f-init c =
    running_start _ _ _ _ c.requires.count_bound

pub overflow_sub-end : goal.overflow_sub-end
overflow_sub-end c =
    start_le c.requires.darts_listed.2 c.loop-f.f c.face_end-end.result c.loop-f-test.true c.face_end-end.ensures

pub put_face-at-requires : goal.put_face-at-requires
put_face-at-requires c =
    let block = c.args.block.now in
    let numbers = c.args.numbers.now in
    let order = c.args.order.now in
    let starts = c.args.starts.now in
    let darts = c.args.darts in
    let count = c.args.count in
    record {
      darts_listed = (
        listed_part c.requires.darts_listed.0 _
            (end_le c.requires.darts_listed.2 c.loop-f.f c.face_end-end.result c.loop-f-test.true c.face_end-end.ensures),
        vertexed_part c.requires.darts_listed.1 _
            (end_le c.requires.darts_listed.2 c.loop-f.f c.face_end-end.result c.loop-f-test.true c.face_end-end.ensures),
      );
      size_bound = omega (
        arith,
        ap length (faces_is block numbers order starts darts count c.loop-f.f c.face_end-end.result c.face_end-end.ensures),
        running_space c.loop-f.invariant c.loop-f-test.true,
      );
    }

pub loop-f-preserved : goal.loop-f-preserved
loop-f-preserved c =
    let block = c.args.block.now in
    let numbers = c.args.numbers.now in
    let order = c.args.order.now in
    let starts = c.args.starts.now in
    let darts = c.args.darts in
    let count = c.args.count in
    running_step c.loop-f.invariant c.loop-f-test.true
    (stored_as (faces_is block numbers order starts darts count c.loop-f.f c.face_end-end.result c.face_end-end.ensures) c.put_face-at.ensures)

pub shape_of-out : goal.shape_of-out
shape_of-out c =
    running_size c.loop-f.invariant

pub returns : goal.returns
returns c =
    running_end c.loop-f.invariant (omega (arith, c.loop-f-test.false))
