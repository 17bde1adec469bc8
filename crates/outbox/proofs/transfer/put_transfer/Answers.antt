-- `outbox::transfer::put_transfer` meets its contract: the length, then both halves of the transfer. Assumes nothing.
use mathlib.Core.Path.{◌∙◌}
use Rattle.groups.proofs.Writing.{stored_then, stored_length}
use Rattle.departure.proofs.FirstNo.{ranges_in}
use Rattle.codec.proofs.EntryLaws.{stored_as}
use Rattle.outbox.proofs.Ready.{linked, listed, opened, pointed, started, vertexed}
use Rattle.outbox.proofs.WholeLaws.{message_bytes, part2_entries, part4_entries, rest_small, sewn_tally, whole_length}
use native.Mathlib.Omega.{arith}
use Rattle.outbox.proofs.transfer.put_transfer.Goals as goal

pub overflow_cast-sizes : goal.overflow_cast-sizes
overflow_cast-sizes c =
    let m = c.args.block.now in
    let ok = c.requires.block_value in
    let sv = c.requires.surveyed in
    let j = c.args.to in
    let z = c.requires.transfer_sized.0 in
    omega (arith, rest_small m ok j sv z)

pub put_group-past_length-requires : goal.put_group-past_length-requires
put_group-past_length-requires c =
    let m = c.args.block.now in
    let ok = c.requires.block_value in
    let sv = c.requires.surveyed in
    let j = c.args.to in
    let z = c.requires.transfer_sized.0 in
    omega (arith, c.requires.transfer_sized.1, whole_length m ok j sv z)

pub put_part1-past_first-requires : goal.put_part1-past_first-requires
put_part1-past_first-requires c =
    let m = c.args.block.now in
    let ok = c.requires.block_value in
    let sv = c.requires.surveyed in
    let j = c.args.to in
    let z = c.requires.transfer_sized.0 in
    record {
      darts_listed = (listed m ok sv, vertexed m ok sv, started m ok sv);
      pointed = (pointed m ok sv, (ranges_in m ok).number_small, c.requires.to_le_last_block.0);
      firsts_bound = omega (arith, c.requires.transfer_sized.1, whole_length m ok j sv z, c.put_group-past_length.ensures.past);
    }

pub put_parts-requires : goal.put_parts-requires
put_parts-requires c =
    let m = c.args.block.now in
    let ok = c.requires.block_value in
    let sv = c.requires.surveyed in
    let j = c.args.to in
    let z = c.requires.transfer_sized.0 in
    record {
      darts_listed = (listed m ok sv, started m ok sv, c.requires.to_le_last_block.0);
      linked = (linked m ok sv, sv.marks_size, opened m ok sv);
      part2_value = (z.part2_is ∙ part2_entries m ok j sv, sewn_tally m ok j sv, z.part4_is ∙ part4_entries m ok j sv);
      sewn_bound = (
        c.requires.to_le_last_block.1,
        omega (
          arith,
          c.requires.transfer_sized.1,
          whole_length m ok j sv z,
          c.put_group-past_length.ensures.past,
          c.put_part1-past_first.ensures.past,
        ),
      );
    }

pub shape_of-out : goal.shape_of-out
shape_of-out c =
    omega (
      arith,
      stored_length c.put_group-past_length.ensures,
      c.put_group-past_length.ensures.past,
      stored_length c.put_part1-past_first.ensures,
      c.put_part1-past_first.ensures.past,
      stored_length c.put_parts.ensures,
      c.put_parts.ensures.past,
    )

pub returns : goal.returns
returns c =
    let m = c.args.block.now in
    let ok = c.requires.block_value in
    let sv = c.requires.surveyed in
    let j = c.args.to in
    let z = c.requires.transfer_sized.0 in
    stored_as (message_bytes m ok j sv z.rest_is)
    (stored_then c.put_group-past_length.ensures (stored_then c.put_part1-past_first.ensures c.put_parts.ensures))
