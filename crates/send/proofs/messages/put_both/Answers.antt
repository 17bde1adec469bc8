-- `send::messages::put_both` meets its contract: the transfer, then the updates into the rest. Assumes nothing.
use mathlib.Core.Path.{ap}
use lib.ListN.{length}
use Rattle.groups.proofs.Writing.{stored_length}
use Rattle.departure.proofs.FirstNo.{ranges_in}
use Rattle.codec.proofs.EntryLaws.{stored_as}
use Rattle.outbox.proofs.Ready.{listed, started}
use Rattle.outbox.proofs.UpdateLaws.{told_small}
use Rattle.outbox.proofs.Relatives.{updates_bytes}
use Rattle.send.proofs.SentLaws.{messages_of, rest_room, stored_both}
use native.Mathlib.Omega.{arith}
use Rattle.send.proofs.messages.put_both.Goals as goal

pub put_transfer-past-requires : goal.put_transfer-past-requires
put_transfer-past-requires c =
    record {
      block_value = c.requires.block_value;
      surveyed = c.requires.surveyed;
      to_le_last_block = c.requires.to_le_last_block;
      transfer_sized = (c.requires.transfer_sized.0, omega (arith, c.requires.transfer_sized.0.small));
    }

pub slice_bounds-rest-count : goal.slice_bounds-rest-count
slice_bounds-rest-count c =
    omega
    (arith, stored_length c.put_transfer-past.ensures, c.put_transfer-past.ensures.past, c.requires.transfer_sized.0.whole_is, c.requires.faces_in_bounds)

pub put_updates-requires : goal.put_updates-requires
put_updates-requires c =
    let m = c.args.block.now in
    let ok = c.requires.block_value in
    let v = c.requires.surveyed in
    record {
      block_value = (ok, c.requires.to_le_last_block.0);
      darts_listed = (listed m ok v, started m ok v);
      shares = c.requires.transfer_sized.1;
      faces_in_bounds = rest_room c.put_transfer-past.ensures _ (omega (arith, c.requires.transfer_sized.0.whole_is, c.requires.faces_in_bounds));
    }

pub overflow_add-result : goal.overflow_add-result
overflow_add-result c =
    let to = c.args.to in
    let m = c.args.block.now in
    let ok = c.requires.block_value in
    let v = c.requires.surveyed in
    let z = c.requires.transfer_sized.0 in
    omega (
      arith,
      c.put_transfer-past.ensures.past,
      z.whole_is,
      z.small,
      (c.put_updates.ensures _ _ _ v).past,
      ap length (updates_bytes m ok to c.requires.to_le_last_block.0 v),
      told_small c.requires.transfer_sized.1 (started m ok v).few to (ranges_in m ok).number_small c.requires.to_le_last_block.0,
    )

pub shape_of-outbox : goal.shape_of-outbox
shape_of-outbox c =
    stored_length
    (stored_both c.put_transfer-past.ensures
    (omega (arith, stored_length c.put_transfer-past.ensures, c.put_transfer-past.ensures.past, c.requires.transfer_sized.0.whole_is, c.requires.faces_in_bounds))
    (c.put_updates.ensures _ _ _ c.requires.surveyed))

pub returns : goal.returns
returns c =
    let a = c.args in
    stored_as (messages_of a.block.now a.to a.counts a.marks.now a.numbers.now a.firsts.now)
    (stored_both c.put_transfer-past.ensures
    (omega (arith, stored_length c.put_transfer-past.ensures, c.put_transfer-past.ensures.past, c.requires.transfer_sized.0.whole_is, c.requires.faces_in_bounds))
    (c.put_updates.ensures _ _ _ c.requires.surveyed))
