-- `send::messages::put_messages` meets its contract: the sum of both sizes is asked for, and then both are put. Assumes nothing.
use Rattle.departure.proofs.FirstNo.{ranges_in}
use Rattle.outbox.proofs.Ready.{listed, started}
use Rattle.send.proofs.SentLaws.{messages_length, too_short, long_enough}
use native.Mathlib.Omega.{arith}
use Rattle.send.proofs.messages.put_messages.Goals as goal

pub transfer_sizes-sizes-requires : goal.transfer_sizes-sizes-requires
transfer_sizes-sizes-requires c =
    record { block_value = c.requires.block_value; surveyed = c.requires.surveyed; to_le_last_block = c.requires.to_le_last_block }

pub updates_size-more-requires : goal.updates_size-more-requires
updates_size-more-requires c =
    let m = c.args.block.now in
    let ok = c.requires.block_value in
    record {
      darts_listed = (listed m ok c.requires.surveyed, started m ok c.requires.surveyed);
      block_bound = ((ranges_in m ok).number_small, c.requires.to_le_last_block.0, c.requires.labels_value.0, c.requires.labels_value.1);
    }

pub overflow_add-sizes : goal.overflow_add-sizes
overflow_add-sizes c =
    omega (arith, c.updates_size-more.ensures.1, c.transfer_sizes-sizes.ensures.small)

pub returns-then-outbox-sizes : goal.returns-then-outbox-sizes
returns-then-outbox-sizes c =
    let to = c.args.to in
    let m = c.args.block.now in
    too_short _ _
    (messages_length m c.requires.block_value to c.requires.to_le_last_block.0 c.requires.surveyed c.transfer_sizes-sizes.ensures
    c.updates_size-more.ensures.0) c.if-outbox-sizes.true

pub put_both-n-requires : goal.put_both-n-requires
put_both-n-requires c =
    record {
      block_value = c.requires.block_value;
      surveyed = c.requires.surveyed;
      to_le_last_block = c.requires.to_le_last_block;
      transfer_sized = (c.transfer_sizes-sizes.ensures, c.updates_size-more.ensures.2);
      faces_in_bounds = omega (arith, c.if-outbox-sizes.false, c.updates_size-more.ensures.0);
    }

pub returns : goal.returns
returns c =
    let to = c.args.to in
    let m = c.args.block.now in
    long_enough _ _
    (messages_length m c.requires.block_value to c.requires.to_le_last_block.0 c.requires.surveyed c.transfer_sizes-sizes.ensures
    c.updates_size-more.ensures.0) c.if-outbox-sizes.false c.put_both-n.ensures
