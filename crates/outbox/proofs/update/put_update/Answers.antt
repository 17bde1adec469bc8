-- `outbox::update::put_update` meets its contract: the head, then the labels. Assumes nothing.
use Rattle.groups.proofs.Writing.{stored_then, stored_length}
use Rattle.codec.proofs.EntryLaws.{stored_as}
use Rattle.outbox.proofs.UpdateLaws.{update_read, read_length}
use native.Mathlib.Omega.{arith}
use Rattle.outbox.proofs.update.put_update.Goals as goal

pub put_head-past-requires : goal.put_head-past-requires
put_head-past-requires c =
    let a = c.args in
    let r = c.rest_size.ensures.0 in
    let len =
    read_length a.block.now a.to a.order.now a.starts.now a.darts a.count a.k c.requires.n_value.0
    c.requires.n_value.1 r in
    record {
      block_nonzero = (
        omega (arith, c.requires.darts_listed.0.header),
        c.requires.block_bound.0,
        c.requires.block_bound.1,
        c.requires.block_bound.2,
        omega (arith, c.requires.block_bound.3),
        omega (arith, c.rest_size.ensures.1),
      );
      rest_bound = omega (arith, c.requires.k_bound, len);
    }

pub put_leasts-requires : goal.put_leasts-requires
put_leasts-requires c =
    let a = c.args in
    let r = c.rest_size.ensures.0 in
    let len =
    read_length a.block.now a.to a.order.now a.starts.now a.darts a.count a.k c.requires.n_value.0
    c.requires.n_value.1 r in
    record {
      darts_listed = (c.requires.darts_listed.0, c.requires.darts_listed.1, omega (arith, c.requires.block_bound.2));
      count_bound = omega (arith, c.requires.k_bound, len, c.put_head-past.ensures.past);
    }

pub shape_of-out : goal.shape_of-out
shape_of-out c =
    omega (arith, stored_length c.put_head-past.ensures, stored_length c.put_leasts.ensures)

pub returns : goal.returns
returns c =
    let a = c.args in
    stored_as
    (update_read a.block.now a.to a.order.now a.starts.now a.darts a.count a.k c.requires.n_value.0
    c.requires.n_value.1 c.rest_size.ensures.0) (stored_then c.put_head-past.ensures c.put_leasts.ensures)
