-- `pairing::keys::order` meets its contract.
-- Assumes nothing.
use lib.Seq.{length-take-le}
use mathlib.Core.Path.{sym, ◌∙◌}
use native.Mathlib.Omega.{arith}
use borrow.Author.Rules.{rules}
use Rattle.sort.proofs.Order.{sorted_front}
use Rattle.pairing.proofs.keys.order.Goals as goal

pub slice_bounds-sort-end-2 : goal.slice_bounds-sort-end-2
slice_bounds-sort-end-2 c =
    sym (length-take-le _ _ (omega arith))

pub slice_bounds-sort-end-4 : goal.slice_bounds-sort-end-4
slice_bounds-sort-end-4 c =
    sym (length-take-le _ _ (omega arith))

pub sort-requires : goal.sort-requires
sort-requires c =
    let a = length-take-le c.args.c c.args.keys.now (omega arith) in
    let b = length-take-le c.args.c c.args.other.now (omega arith) in
    b ∙ sym a

pub returns : goal.returns
returns c =
    (sorted_front c.args.keys.now c.args.c c.requires.0 c.sort.ensures, search rules, search rules)
