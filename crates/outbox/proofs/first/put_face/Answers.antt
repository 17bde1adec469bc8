-- `outbox::first::put_face` meets its contract: the size, and the darts after it. Assumes nothing.
use Rattle.groups.proofs.Writing.{stored_then}
use Rattle.codec.proofs.EntryLaws.{stored_as, room_after}
use Rattle.outbox.proofs.BytesLaws.{face_length, face_of}
use native.Mathlib.Omega.{arith}
use Rattle.outbox.proofs.first.put_face.Goals as goal

pub put_group-past-requires : goal.put_group-past-requires
put_group-past-requires c =
    let block = c.args.block.now in
    let numbers = c.args.numbers.now in
    let order = c.args.order.now in
    let first = c.args.start.0 in
    let size = c.args.size in
    omega (arith, c.requires.size_bound, face_length block numbers order first size)

pub put_darts-requires : goal.put_darts-requires
put_darts-requires c =
    let block = c.args.block.now in
    let numbers = c.args.numbers.now in
    let order = c.args.order.now in
    let first = c.args.start.0 in
    let size = c.args.size in
    record {
      darts_listed = c.requires.darts_listed;
      size_bound = room_after c.put_group-past.ensures _ (omega (arith, c.requires.size_bound, face_length block numbers order first size));
    }

pub returns : goal.returns
returns c =
    let block = c.args.block.now in
    let numbers = c.args.numbers.now in
    let order = c.args.order.now in
    let first = c.args.start.0 in
    let size = c.args.size in
    stored_as (face_of block numbers order first size) (stored_then c.put_group-past.ensures c.put_darts.ensures)
