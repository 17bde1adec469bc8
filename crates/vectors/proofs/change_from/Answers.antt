-- `vectors::change_from` meets its contract: the parts have as many words as the record tells.
-- Assumes nothing.
use mathlib.Core.Path.{sym}
use lib.Seq.{length-take-le}
use Rattle.vectors.proofs.change_from.Goals as goal

pub slice_bounds-change_on-end-then-words-told : goal.slice_bounds-change_on-end-then-words-told
slice_bounds-change_on-end-then-words-told c =
    sym (length-take-le c.short-words.result c.args.block.now c.if-words-block.true)

pub slice_bounds-change_on-end-then-words-told-3 : goal.slice_bounds-change_on-end-then-words-told-3
slice_bounds-change_on-end-then-words-told-3 c =
    sym (length-take-le c.short-words.result c.args.told.now c.if-words-told.true)
