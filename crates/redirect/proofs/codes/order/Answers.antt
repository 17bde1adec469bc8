-- `redirect::codes::order` meets its contract: the first c codes are lent to `sort::distinct`.
-- Assumes nothing.
use lib.Seq.{length-take-le}
use mathlib.Core.Path.{sym, ◌∙◌}
use native.Mathlib.Omega.{arith}
use Rattle.sort.proofs.Order.{sorted_front}
use Rattle.redirect.proofs.codes.order.Goals as goal

pub slice_bounds-distinct-end-2 : goal.slice_bounds-distinct-end-2
slice_bounds-distinct-end-2 c =
    sym (length-take-le _ _ (omega arith))

pub slice_bounds-distinct-end-4 : goal.slice_bounds-distinct-end-4
slice_bounds-distinct-end-4 c =
    sym (length-take-le _ _ (omega arith))

pub distinct-requires : goal.distinct-requires
distinct-requires c =
    let a = length-take-le c.args.c c.args.codes.now (omega arith) in
    let b = length-take-le c.args.c c.args.scratch.now (omega arith) in
    b ∙ sym a

pub returns : goal.returns
returns c =
    (c.distinct.ensures.0, sorted_front c.args.codes.now c.args.c (omega (arith, c.requires)) c.distinct.ensures.1)
