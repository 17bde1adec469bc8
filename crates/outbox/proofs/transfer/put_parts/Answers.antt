-- `outbox::transfer::put_parts` meets its contract: one part stored after the other, with room left for the rest. Assumes nothing.
use mathlib.Core.Path.{ap}
use Prim.Native.Nat.{ℕ}
use lib.ListN.{length}
use Rattle.model.specs.Layouts.{group}
use Rattle.groups.proofs.Writing.{stored_then, stored_length}
use Rattle.outbox.specs.Bytes.{in_part2, in_part3, in_part4}
use Rattle.codec.proofs.EntryLaws.{stored_as}
use Rattle.outbox.proofs.Running.{tally_le}
use Rattle.outbox.proofs.WholeLaws.{parts_length, parts_of}
use native.Mathlib.Omega.{arith}
use Rattle.outbox.proofs.transfer.put_parts.Goals as goal

pub bounds-block-2 : goal.bounds-block-2
bounds-block-2 c =
    omega arith

pub overflow_cast-part2 : goal.overflow_cast-part2
overflow_cast-part2 c =
    let to = c.args.to in
    let order = c.args.order.now in
    let starts = c.args.starts.now in
    let counts = c.args.counts in
    let m = c.args.block.now in
    omega (arith, c.requires.part2_value.0, tally_le (in_part2 m to order starts) counts.faces, c.requires.darts_listed.1.few)

pub put_group-past_two-requires : goal.put_group-past_two-requires
put_group-past_two-requires c =
    let to = c.args.to in
    let counts = c.args.counts in
    let marks = c.args.marks.now in
    let order = c.args.order.now in
    let starts = c.args.starts.now in
    let m = c.args.block.now in
    let len = parts_length m to counts marks order starts in
    omega (
      arith,
      c.requires.sewn_bound.1,
      len,
      ap (λ (n : ℕ). length (group.put n)) c.requires.part2_value.0,
      ap (λ (n : ℕ). length (group.put n)) c.requires.part2_value.1,
      ap (λ (n : ℕ). length (group.put n)) c.requires.part2_value.2,
    )

pub put_part2s-past_part2-requires : goal.put_part2s-past_part2-requires
put_part2s-past_part2-requires c =
    let to = c.args.to in
    let counts = c.args.counts in
    let marks = c.args.marks.now in
    let order = c.args.order.now in
    let starts = c.args.starts.now in
    let m = c.args.block.now in
    let len = parts_length m to counts marks order starts in
    record {
      block_in_bounds = (c.requires.linked.0.size, c.requires.linked.2, omega (arith, c.requires.darts_listed.2));
      count_bound = omega (
        arith,
        c.requires.sewn_bound.1,
        len,
        ap (λ (n : ℕ). length (group.put n)) c.requires.part2_value.0,
        ap (λ (n : ℕ). length (group.put n)) c.requires.part2_value.1,
        ap (λ (n : ℕ). length (group.put n)) c.requires.part2_value.2,
        c.put_group-past_two.ensures.past,
      );
    }

pub overflow_cast-counts : goal.overflow_cast-counts
overflow_cast-counts c =
    let marks = c.args.marks.now in
    let order = c.args.order.now in
    let starts = c.args.starts.now in
    let counts = c.args.counts in
    let m = c.args.block.now in
    omega (arith, c.requires.part2_value.1, tally_le (in_part3 m marks order starts) counts.faces, c.requires.darts_listed.1.few)

pub put_group-past_three-requires : goal.put_group-past_three-requires
put_group-past_three-requires c =
    let to = c.args.to in
    let counts = c.args.counts in
    let marks = c.args.marks.now in
    let order = c.args.order.now in
    let starts = c.args.starts.now in
    let m = c.args.block.now in
    let len = parts_length m to counts marks order starts in
    omega (
      arith,
      c.requires.sewn_bound.1,
      len,
      ap (λ (n : ℕ). length (group.put n)) c.requires.part2_value.0,
      ap (λ (n : ℕ). length (group.put n)) c.requires.part2_value.1,
      ap (λ (n : ℕ). length (group.put n)) c.requires.part2_value.2,
      c.put_group-past_two.ensures.past,
      c.put_part2s-past_part2.ensures.past,
    )

pub bounds-block-1 : goal.bounds-block-1
bounds-block-1 c =
    omega (arith, c.requires.darts_listed.0.header)

pub put_part3s-past_part3-requires : goal.put_part3s-past_part3-requires
put_part3s-past_part3-requires c =
    let to = c.args.to in
    let counts = c.args.counts in
    let marks = c.args.marks.now in
    let order = c.args.order.now in
    let starts = c.args.starts.now in
    let m = c.args.block.now in
    let len = parts_length m to counts marks order starts in
    record {
      linked = c.requires.linked;
      count_bound = omega (arith, c.requires.sewn_bound.0, c.requires.part2_value.1);
      count_bound_2 = omega (
        arith,
        c.requires.sewn_bound.1,
        len,
        ap (λ (n : ℕ). length (group.put n)) c.requires.part2_value.0,
        ap (λ (n : ℕ). length (group.put n)) c.requires.part2_value.1,
        ap (λ (n : ℕ). length (group.put n)) c.requires.part2_value.2,
        c.put_group-past_two.ensures.past,
        c.put_part2s-past_part2.ensures.past,
        c.put_group-past_three.ensures.past,
      );
    }

pub overflow_cast-part4 : goal.overflow_cast-part4
overflow_cast-part4 c =
    let to = c.args.to in
    let order = c.args.order.now in
    let starts = c.args.starts.now in
    let counts = c.args.counts in
    let m = c.args.block.now in
    omega (arith, c.requires.part2_value.2, tally_le (in_part4 m to order starts) counts.faces, c.requires.darts_listed.1.few)

pub put_group-past_four-requires : goal.put_group-past_four-requires
put_group-past_four-requires c =
    let to = c.args.to in
    let counts = c.args.counts in
    let marks = c.args.marks.now in
    let order = c.args.order.now in
    let starts = c.args.starts.now in
    let m = c.args.block.now in
    let len = parts_length m to counts marks order starts in
    omega (
      arith,
      c.requires.sewn_bound.1,
      len,
      ap (λ (n : ℕ). length (group.put n)) c.requires.part2_value.0,
      ap (λ (n : ℕ). length (group.put n)) c.requires.part2_value.1,
      ap (λ (n : ℕ). length (group.put n)) c.requires.part2_value.2,
      c.put_group-past_two.ensures.past,
      c.put_part2s-past_part2.ensures.past,
      c.put_group-past_three.ensures.past,
      c.put_part3s-past_part3.ensures.past,
    )

pub put_part4s-requires : goal.put_part4s-requires
put_part4s-requires c =
    let to = c.args.to in
    let counts = c.args.counts in
    let marks = c.args.marks.now in
    let order = c.args.order.now in
    let starts = c.args.starts.now in
    let m = c.args.block.now in
    let len = parts_length m to counts marks order starts in
    record {
      darts_listed = (c.requires.darts_listed.0, c.requires.darts_listed.1, omega (arith, c.requires.darts_listed.2));
      count_bound = omega (
        arith,
        c.requires.sewn_bound.1,
        len,
        ap (λ (n : ℕ). length (group.put n)) c.requires.part2_value.0,
        ap (λ (n : ℕ). length (group.put n)) c.requires.part2_value.1,
        ap (λ (n : ℕ). length (group.put n)) c.requires.part2_value.2,
        c.put_group-past_two.ensures.past,
        c.put_part2s-past_part2.ensures.past,
        c.put_group-past_three.ensures.past,
        c.put_part3s-past_part3.ensures.past,
        c.put_group-past_four.ensures.past,
      );
    }

pub shape_of-out : goal.shape_of-out
shape_of-out c =
    omega (
      arith,
      stored_length c.put_group-past_two.ensures,
      c.put_group-past_two.ensures.past,
      stored_length c.put_part2s-past_part2.ensures,
      c.put_part2s-past_part2.ensures.past,
      stored_length c.put_group-past_three.ensures,
      c.put_group-past_three.ensures.past,
      stored_length c.put_part3s-past_part3.ensures,
      c.put_part3s-past_part3.ensures.past,
      stored_length c.put_group-past_four.ensures,
      c.put_group-past_four.ensures.past,
      stored_length c.put_part4s.ensures,
      c.put_part4s.ensures.past,
    )

pub returns : goal.returns
returns c =
    let to = c.args.to in
    let counts = c.args.counts in
    let marks = c.args.marks.now in
    let order = c.args.order.now in
    let starts = c.args.starts.now in
    let m = c.args.block.now in
    stored_as (parts_of m to counts marks order starts c.requires.part2_value.0 c.requires.part2_value.1 c.requires.part2_value.2)
    (stored_then (stored_then c.put_group-past_two.ensures c.put_part2s-past_part2.ensures)
    (stored_then (stored_then c.put_group-past_three.ensures c.put_part3s-past_part3.ensures) (stored_then c.put_group-past_four.ensures c.put_part4s.ensures)))
