-- `redirect::all_named` meets its contract: codes that differ ascend, and each is that of a face.
-- Assumes nothing.
use Rattle.redirect.proofs.AllLabels.{not_apart, apart_ready, all_told}
use native.Mathlib.Omega.{arith}
use Rattle.redirect.proofs.all_named.Goals as goal

pub returns-then-not-order : goal.returns-then-not-order
returns-then-not-order c =
    let block = c.args.block.now in
    let from = c.args.from in
    not_apart block from _ c.requires.block_value.4 c.read_codes.ensures c.order.ensures
    (omega (arith, c.read_codes.auto, c.order.auto, c.requires.count_in_bounds.0)) c.if-not-order.true

pub each_named-requires : goal.each_named-requires
each_named-requires c =
    let block = c.args.block.now in
    let from = c.args.from in
    record {
      block_value = (
        c.requires.block_value.0,
        c.requires.block_value.1,
        c.requires.block_value.2,
        apart_ready block from _ c.requires.block_value.4 c.read_codes.ensures c.order.ensures
            (omega (arith, c.read_codes.auto, c.order.auto, c.requires.count_in_bounds.0)) c.if-not-order.false,
      );
      n_in_bounds = c.requires.n_in_bounds;
    }

pub returns : goal.returns
returns c =
    all_told c.args.block.now c.args.from _ c.requires.block_value.4 c.read_codes.ensures c.order.ensures
    (omega (arith, c.read_codes.auto, c.order.auto, c.requires.count_in_bounds.0)) c.if-not-order.false c.each_named.ensures
