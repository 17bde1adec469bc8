-- `outbox::transfer::put_part1` meets its contract: one part stored after the other, with room left for the rest. Assumes nothing.
use Rattle.groups.proofs.Writing.{stored_then, stored_length}
use Rattle.codec.proofs.EntryLaws.{stored_as}
use Rattle.outbox.proofs.WholeLaws.{first_length, first_of}
use native.Mathlib.Omega.{arith}
use Rattle.outbox.proofs.transfer.put_part1.Goals as goal

pub put_group-past_kind-requires : goal.put_group-past_kind-requires
put_group-past_kind-requires c =
    let to = c.args.to in
    let counts = c.args.counts in
    let order = c.args.order.now in
    let starts = c.args.starts.now in
    let numbers = c.args.numbers.now in
    let firsts = c.args.firsts.now in
    let m = c.args.block.now in
    let len = first_length m to counts order starts numbers firsts in
    omega (arith, c.requires.firsts_bound, len)

pub bounds-block-0 : goal.bounds-block-0
bounds-block-0 c =
    omega arith

pub overflow_cast-block : goal.overflow_cast-block
overflow_cast-block c =
    omega arith

pub put_group-past_from-requires : goal.put_group-past_from-requires
put_group-past_from-requires c =
    let to = c.args.to in
    let counts = c.args.counts in
    let order = c.args.order.now in
    let starts = c.args.starts.now in
    let numbers = c.args.numbers.now in
    let firsts = c.args.firsts.now in
    let m = c.args.block.now in
    let len = first_length m to counts order starts numbers firsts in
    omega (arith, c.requires.firsts_bound, len, c.put_group-past_kind.ensures.past)

pub overflow_cast-to : goal.overflow_cast-to
overflow_cast-to c =
    omega arith

pub put_group-past_to-requires : goal.put_group-past_to-requires
put_group-past_to-requires c =
    let to = c.args.to in
    let counts = c.args.counts in
    let order = c.args.order.now in
    let starts = c.args.starts.now in
    let numbers = c.args.numbers.now in
    let firsts = c.args.firsts.now in
    let m = c.args.block.now in
    let len = first_length m to counts order starts numbers firsts in
    omega (arith, c.requires.firsts_bound, len, c.put_group-past_kind.ensures.past, c.put_group-past_from.ensures.past)

pub overflow_cast-vertices : goal.overflow_cast-vertices
overflow_cast-vertices c =
    omega arith

pub put_group-past_count-requires : goal.put_group-past_count-requires
put_group-past_count-requires c =
    let to = c.args.to in
    let counts = c.args.counts in
    let order = c.args.order.now in
    let starts = c.args.starts.now in
    let numbers = c.args.numbers.now in
    let firsts = c.args.firsts.now in
    let m = c.args.block.now in
    let len = first_length m to counts order starts numbers firsts in
    omega (
      arith,
      c.requires.firsts_bound,
      len,
      c.put_group-past_kind.ensures.past,
      c.put_group-past_from.ensures.past,
      c.put_group-past_to.ensures.past,
    )

pub put_points-past_points-requires : goal.put_points-past_points-requires
put_points-past_points-requires c =
    let to = c.args.to in
    let counts = c.args.counts in
    let order = c.args.order.now in
    let starts = c.args.starts.now in
    let numbers = c.args.numbers.now in
    let firsts = c.args.firsts.now in
    let m = c.args.block.now in
    let len = first_length m to counts order starts numbers firsts in
    record {
      pointed = c.requires.pointed.0;
      count_bound = omega (
        arith,
        c.requires.firsts_bound,
        len,
        c.put_group-past_kind.ensures.past,
        c.put_group-past_from.ensures.past,
        c.put_group-past_to.ensures.past,
        c.put_group-past_count.ensures.past,
      );
    }

pub overflow_cast-faces : goal.overflow_cast-faces
overflow_cast-faces c =
    omega (arith, c.requires.darts_listed.2.few)

pub put_group-past_faces-requires : goal.put_group-past_faces-requires
put_group-past_faces-requires c =
    let to = c.args.to in
    let counts = c.args.counts in
    let order = c.args.order.now in
    let starts = c.args.starts.now in
    let numbers = c.args.numbers.now in
    let firsts = c.args.firsts.now in
    let m = c.args.block.now in
    let len = first_length m to counts order starts numbers firsts in
    omega (
      arith,
      c.requires.firsts_bound,
      len,
      c.put_group-past_kind.ensures.past,
      c.put_group-past_from.ensures.past,
      c.put_group-past_to.ensures.past,
      c.put_group-past_count.ensures.past,
      c.put_points-past_points.ensures.past,
    )

pub put_faces-requires : goal.put_faces-requires
put_faces-requires c =
    let to = c.args.to in
    let counts = c.args.counts in
    let order = c.args.order.now in
    let starts = c.args.starts.now in
    let numbers = c.args.numbers.now in
    let firsts = c.args.firsts.now in
    let m = c.args.block.now in
    let len = first_length m to counts order starts numbers firsts in
    record {
      darts_listed = c.requires.darts_listed;
      count_bound = omega (
        arith,
        c.requires.firsts_bound,
        len,
        c.put_group-past_kind.ensures.past,
        c.put_group-past_from.ensures.past,
        c.put_group-past_to.ensures.past,
        c.put_group-past_count.ensures.past,
        c.put_points-past_points.ensures.past,
        c.put_group-past_faces.ensures.past,
      );
    }

pub shape_of-out : goal.shape_of-out
shape_of-out c =
    omega (
      arith,
      stored_length c.put_group-past_kind.ensures,
      c.put_group-past_kind.ensures.past,
      stored_length c.put_group-past_from.ensures,
      c.put_group-past_from.ensures.past,
      stored_length c.put_group-past_to.ensures,
      c.put_group-past_to.ensures.past,
      stored_length c.put_group-past_count.ensures,
      c.put_group-past_count.ensures.past,
      stored_length c.put_points-past_points.ensures,
      c.put_points-past_points.ensures.past,
      stored_length c.put_group-past_faces.ensures,
      c.put_group-past_faces.ensures.past,
      stored_length c.put_faces.ensures,
      c.put_faces.ensures.past,
    )

pub returns : goal.returns
returns c =
    let to = c.args.to in
    let counts = c.args.counts in
    let order = c.args.order.now in
    let starts = c.args.starts.now in
    let numbers = c.args.numbers.now in
    let firsts = c.args.firsts.now in
    let m = c.args.block.now in
    stored_as (first_of m to counts order starts numbers firsts)
    (stored_then c.put_group-past_kind.ensures
    (stored_then c.put_group-past_from.ensures
    (stored_then c.put_group-past_to.ensures
    (stored_then (stored_then c.put_group-past_count.ensures c.put_points-past_points.ensures) (stored_then c.put_group-past_faces.ensures c.put_faces.ensures)))))
