use mathlib.Core.Path.{sym}
use lib.Seq.{length-take-le}
use Rattle.vectors.proofs.check_on.Goals as goal

pub slice_bounds-check_with-end-then-entries-told : goal.slice_bounds-check_with-end-then-entries-told
slice_bounds-check_with-end-then-entries-told c =
    sym (length-take-le c.short-entries.result c.args.scratch.now c.if-entries-scratch.true)

pub slice_bounds-check_with-end-then-entries-told-3 : goal.slice_bounds-check_with-end-then-entries-told-3
slice_bounds-check_with-end-then-entries-told-3 c =
    sym (length-take-le c.short-entries.result c.args.told.now c.if-entries-told.true)
