-- `selection::add_volume` meets its contract. Assumes nothing.
use Prim.Native.Nat.{ℕ, ◌-◌, ◌<◌}
use mathlib.Core.List.{List}
use Rattle.model.specs.Image.{column}
use Rattle.cells.specs.Places.{Visited, volume_of}
use Rattle.selection.specs.Picked.{Marking}
use Rattle.selection.proofs.Adding.{Going}
use Rattle.selection.proofs.add_volume.Given as goal

abbrev pub invariant-loop-head : goal.invariant-loop-head
invariant-loop-head l =
    (s : ℕ) → s < l.n → (m o : List ℕ) → Marking l.n (column l.block 1) (column l.block 2) m o l.tail → Visited s m o l.tail l.initial.marks
    l.initial.order l.initial.end
    → Going l.n (column l.block 1) (column l.block 2) s (volume_of l.block s) m o l.tail l.marks l.order l.end l.head

abbrev pub decreases-loop-head : goal.decreases-loop-head
decreases-loop-head l =
    4096 - l.head
