-- `parts::meets::part2_right` meets its contract.
-- Assumes nothing.
use Prim.Native.Nat.{◌≤◌}
use mathlib.Core.Path.{◌≡◌}
use lib.ListN.{length, get_or}
use Rattle.model.specs.Cells.{cycle}
use Rattle.model.specs.Image.{column}
use Rattle.arrival.proofs.Steps.{Passing}
use Rattle.parts.specs.Faces.{Faced}
use Rattle.parts.specs.Meets.{met_at}
use Rattle.parts.specs.Sewing.{SeenBy, face_size, passes_at}
use Rattle.parts.proofs.meets.part2_right.Given as goal

abbrev pub invariant-loop-e : goal.invariant-loop-e
invariant-loop-e l =
    SeenBy l.block l.places l.e l.seen × Faced l.sizes l.indices l.e (λ d j. 1) l.initial.kinds l.kinds
    × Faced l.sizes l.indices l.e (λ d. met_at (cycle (column l.block 1) (get_or l.places d 0)) (face_size l.sizes l.indices d)) l.initial.links
    l.links
    × Passing (passes_at l.block l.draft l.ranks l.sizes l.places l.indices l.n l.from) l.e × (l.e ≤ l.c)
    × (length l.trail ≡ length l.initial.trail) × (length l.seen ≡ length l.initial.seen)
