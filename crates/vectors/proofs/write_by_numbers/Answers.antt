-- `vectors::write_by_numbers` meets its contract: the part has as many words as the record tells.
-- Assumes nothing.
use mathlib.Core.Path.{sym}
use lib.Seq.{length-take-le}
use Rattle.vectors.proofs.write_by_numbers.Goals as goal

pub slice_bounds-write_from-end-then-words-block : goal.slice_bounds-write_from-end-then-words-block
slice_bounds-write_from-end-then-words-block c =
    sym (length-take-le c.short-words.result c.args.block.now c.if-words-block.true)
