-- `outbox::update::put_head` meets its contract: one number stored after the other. Assumes nothing.
use Rattle.groups.proofs.Writing.{stored_then, stored_length}
use Rattle.codec.proofs.EntryLaws.{stored_as}
use Rattle.outbox.proofs.UpdateLaws.{head_lengths, head_of}
use native.Mathlib.Omega.{arith}
use Rattle.outbox.proofs.update.put_head.Goals as goal

pub overflow_cast-rest : goal.overflow_cast-rest
overflow_cast-rest c =
    omega arith

pub put_group-past_length-requires : goal.put_group-past_length-requires
put_group-past_length-requires c =
    let a = c.args in
    let len = head_lengths a.block.now a.to a.k a.n a.rest in
    omega (arith, c.requires.rest_bound, len)

pub put_group-past_kind-requires : goal.put_group-past_kind-requires
put_group-past_kind-requires c =
    let a = c.args in
    let len = head_lengths a.block.now a.to a.k a.n a.rest in
    omega (arith, c.requires.rest_bound, len, c.put_group-past_length.ensures.past)

pub bounds-block-0 : goal.bounds-block-0
bounds-block-0 c =
    omega arith

pub overflow_cast-block : goal.overflow_cast-block
overflow_cast-block c =
    omega arith

pub put_group-past_from-requires : goal.put_group-past_from-requires
put_group-past_from-requires c =
    let a = c.args in
    let len = head_lengths a.block.now a.to a.k a.n a.rest in
    omega (arith, c.requires.rest_bound, len, c.put_group-past_length.ensures.past, c.put_group-past_kind.ensures.past)

pub overflow_cast-k : goal.overflow_cast-k
overflow_cast-k c =
    omega arith

pub put_group-past_to-requires : goal.put_group-past_to-requires
put_group-past_to-requires c =
    let a = c.args in
    let len = head_lengths a.block.now a.to a.k a.n a.rest in
    omega (
      arith,
      c.requires.rest_bound,
      len,
      c.put_group-past_length.ensures.past,
      c.put_group-past_kind.ensures.past,
      c.put_group-past_from.ensures.past,
    )

pub overflow_cast-to : goal.overflow_cast-to
overflow_cast-to c =
    omega arith

pub put_group-past_new-requires : goal.put_group-past_new-requires
put_group-past_new-requires c =
    let a = c.args in
    let len = head_lengths a.block.now a.to a.k a.n a.rest in
    omega (
      arith,
      c.requires.rest_bound,
      len,
      c.put_group-past_length.ensures.past,
      c.put_group-past_kind.ensures.past,
      c.put_group-past_from.ensures.past,
      c.put_group-past_to.ensures.past,
    )

pub overflow_cast-n : goal.overflow_cast-n
overflow_cast-n c =
    omega arith

pub put_group-requires : goal.put_group-requires
put_group-requires c =
    let a = c.args in
    let len = head_lengths a.block.now a.to a.k a.n a.rest in
    omega (
      arith,
      c.requires.rest_bound,
      len,
      c.put_group-past_length.ensures.past,
      c.put_group-past_kind.ensures.past,
      c.put_group-past_from.ensures.past,
      c.put_group-past_to.ensures.past,
      c.put_group-past_new.ensures.past,
    )

pub shape_of-out : goal.shape_of-out
shape_of-out c =
    omega (
      arith,
      stored_length c.put_group-past_length.ensures,
      c.put_group-past_length.ensures.past,
      stored_length c.put_group-past_kind.ensures,
      c.put_group-past_kind.ensures.past,
      stored_length c.put_group-past_from.ensures,
      c.put_group-past_from.ensures.past,
      stored_length c.put_group-past_to.ensures,
      c.put_group-past_to.ensures.past,
      stored_length c.put_group-past_new.ensures,
      c.put_group-past_new.ensures.past,
      stored_length c.put_group.ensures,
      c.put_group.ensures.past,
    )

pub returns : goal.returns
returns c =
    let a = c.args in
    stored_as (head_of a.block.now a.to a.k a.n a.rest)
    (stored_then c.put_group-past_length.ensures
    (stored_then c.put_group-past_kind.ensures
    (stored_then c.put_group-past_from.ensures (stored_then c.put_group-past_to.ensures (stored_then c.put_group-past_new.ensures c.put_group.ensures)))))
