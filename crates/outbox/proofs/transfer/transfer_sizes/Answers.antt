-- `outbox::transfer::transfer_sizes` meets its contract: both halves that are put into no output end where the transfer does. Assumes nothing.
use mathlib.Core.Path.{◌∙◌, ap, sym}
use Prim.Native.Nat.{ℕ, ◌+◌}
use Rattle.theory.proofs.GroupLaws.{count_most, group_length}
use Rattle.departure.proofs.FirstNo.{ranges_in}
use Rattle.outbox.proofs.Ready.{linked, listed, opened, pointed, started, vertexed}
use Rattle.outbox.proofs.WholeLaws.{end_is, end_small, halves_short, sewn_tally, sized}
use native.Mathlib.Omega.{arith}
use Rattle.outbox.proofs.transfer.transfer_sizes.Goals as goal

pub part2_count-part2-requires : goal.part2_count-part2-requires
part2_count-part2-requires c =
    let m = c.args.block.now in
    let ok = c.requires.block_value in
    let sv = c.requires.surveyed in
    ((linked m ok sv).size, opened m ok sv, c.requires.to_le_last_block.0)

pub part4_count-part4-requires : goal.part4_count-part4-requires
part4_count-part4-requires c =
    let m = c.args.block.now in
    let ok = c.requires.block_value in
    let sv = c.requires.surveyed in
    ((linked m ok sv).size, opened m ok sv, c.requires.to_le_last_block.0)

pub put_part1-first-requires : goal.put_part1-first-requires
put_part1-first-requires c =
    let m = c.args.block.now in
    let ok = c.requires.block_value in
    let sv = c.requires.surveyed in
    record {
      darts_listed = (listed m ok sv, vertexed m ok sv, started m ok sv);
      pointed = (pointed m ok sv, (ranges_in m ok).number_small, c.requires.to_le_last_block.0);
      firsts_bound = omega (arith, halves_short m ok c.args.to sv);
    }

pub put_parts-rest-requires : goal.put_parts-rest-requires
put_parts-rest-requires c =
    let m = c.args.block.now in
    let ok = c.requires.block_value in
    let sv = c.requires.surveyed in
    let j = c.args.to in
    record {
      darts_listed = (listed m ok sv, started m ok sv, c.requires.to_le_last_block.0);
      linked = (linked m ok sv, sv.marks_size, opened m ok sv);
      part2_value = (c.part2_count-part2.ensures, sewn_tally m ok j sv, c.part4_count-part4.ensures);
      sewn_bound = (c.requires.to_le_last_block.1, omega (arith, halves_short m ok j sv, c.put_part1-first.ensures.past));
    }

pub overflow_cast-rest : goal.overflow_cast-rest
overflow_cast-rest c =
    omega
    (arith, end_small c.args.block.now c.requires.block_value c.args.to c.requires.surveyed c.put_part1-first.ensures.past c.put_parts-rest.ensures.past)

pub overflow_add-whole : goal.overflow_add-whole
overflow_add-whole c =
    let small = end_small c.args.block.now c.requires.block_value c.args.to c.requires.surveyed c.put_part1-first.ensures.past
    c.put_parts-rest.ensures.past in
    omega (arith, small, c.group_count.ensures, count_most c.put_parts-rest.result (omega (arith, small)))

pub returns : goal.returns
returns c =
    let m = c.args.block.now in
    let ok = c.requires.block_value in
    let sv = c.requires.surveyed in
    let j = c.args.to in
    let small = end_small m ok j sv c.put_part1-first.ensures.past c.put_parts-rest.ensures.past in
    let count_is = c.group_count.ensures ∙ sym (group_length c.put_parts-rest.result (omega (arith, small))) in
    sized m ok j sv _ c.part2_count-part2.ensures c.part4_count-part4.ensures
    (end_is m ok j sv c.put_part1-first.ensures.past c.put_parts-rest.ensures.past)
    (ap (λ (n : ℕ). n + c.put_parts-rest.result) count_is)
    (omega (arith, small, c.group_count.ensures, count_most c.put_parts-rest.result (omega (arith, small))))
