-- `vectors::write_from` meets its contract: the part has as many bytes as the record tells.
-- Assumes nothing.
use mathlib.Core.Path.{sym}
use lib.Seq.{length-take-le}
use Rattle.vectors.proofs.write_from.Goals as goal

pub slice_bounds-write_on-end-then-bytes-out : goal.slice_bounds-write_on-end-then-bytes-out
slice_bounds-write_on-end-then-bytes-out c =
    sym (length-take-le c.short-bytes.result c.args.out.now c.if-bytes-out.true)
