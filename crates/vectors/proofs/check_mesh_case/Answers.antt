use mathlib.Core.Path.{sym}
use lib.Seq.{length-take-le}
use Rattle.vectors.proofs.check_mesh_case.Goals as goal

pub slice_bounds-check_on-end-then-words-mesh : goal.slice_bounds-check_on-end-then-words-mesh
slice_bounds-check_on-end-then-words-mesh c =
    sym (length-take-le c.short-words.result c.args.mesh.now c.if-words-mesh.true)
