-- `send::volume::send_volume` meets its contract: the first no of 9 to 14, or what question 15 gives. Assumes nothing.
use Rattle.memory.specs.Header.{limits_of}
use Rattle.departure.proofs.Told.{departs_told, refused_told}
use Rattle.send.proofs.SentLaws.{refused_leaving, sent}
use Rattle.send.proofs.volume.send_volume.Goals as goal

pub leaves-requires : goal.leaves-requires
leaves-requires c =
    record {
      block_value = (c.requires.block_len.2, c.requires.block_len.3);
      block_in_bounds = c.requires.block_in_bounds;
      block_in_bounds_2 = c.requires.block_in_bounds_2;
      block_in_bounds_3 = c.requires.block_in_bounds_3;
    }

pub put_messages-requires : goal.put_messages-requires
put_messages-requires c =
    let d = departs_told c.args.limits.volume c.args.block.now c.args.to c.args.serial _ _ _ _ _ c.leaves.ensures.answer c.in-Ok.is in
    record {
      block_value = c.requires.block_len.2;
      surveyed = d.survey;
      to_le_last_block = (d.to_block, d.counter_fits);
      labels_value = c.requires.labels_value;
    }

pub returns-in-Err : goal.returns-in-Err
returns-in-Err c =
    let block = c.args.block.now in
    let to = c.args.to in
    let serial = c.args.serial in
    refused_leaving block _ to serial (limits_of c.args.limits) c.requires.block_len.0 c.requires.block_len.1
    (refused_told c.args.limits.volume block to serial _ _ _ _ _ c.leaves.ensures.answer c.in-Err.is)

pub returns-in-Ok : goal.returns-in-Ok
returns-in-Ok c =
    let d = departs_told c.args.limits.volume c.args.block.now c.args.to c.args.serial _ _ _ _ _ c.leaves.ensures.answer c.in-Ok.is in
    sent c.args.block.now _ c.args.to c.args.serial (limits_of c.args.limits) c.requires.block_len.0 c.requires.block_len.1
    c.requires.block_len.2 d c.put_messages.ensures
