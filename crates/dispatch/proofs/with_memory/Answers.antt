-- `dispatch::with_memory` meets its contract: the text and the mesh are as long as their arrays. Assumes nothing.
use Rattle.std.proofs.Common.{ℕ, sym}
use Rattle.std.proofs.lemmas.List.{length-replicate}
use Rattle.dispatch.proofs.with_memory.Goals as goal

pub slice_bounds-work-end : goal.slice_bounds-work-end
slice_bounds-work-end c =
    sym {0} (length-replicate {0} {A = ℕ} 524288 0)

pub slice_bounds-lent-end-3 : goal.slice_bounds-lent-end-3
slice_bounds-lent-end-3 c =
    sym {0} (length-replicate {0} {A = ℕ} 524416 0)
