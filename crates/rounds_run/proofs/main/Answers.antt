-- `rounds_run::main` meets its contract: the mesh is as long as its array. Assumes nothing.
use Rattle.std.proofs.Common.{ℕ, sym}
use Rattle.std.proofs.lemmas.List.{length-replicate}
use Rattle.rounds_run.proofs.main.Goals as goal

pub slice_bounds-run-end-2 : goal.slice_bounds-run-end-2
slice_bounds-run-end-2 c =
    sym {0} (length-replicate {0} {A = ℕ} 524416 0)
