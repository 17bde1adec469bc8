-- `cells::walk::volume` meets its contract. The loop's invariant: a walk whose first `head` queued places are done.
-- The measure is what is left of the room for the queue. Assumes nothing.
use Prim.Native.Nat.{◌-◌}
use mathlib.Core.Path.{◌≡◌}
use lib.ListN.{length}
use Rattle.model.specs.Image.{column}
use Rattle.cells.specs.Places.{volume_of}
use Rattle.cells.proofs.Walks.{Walk}
use Rattle.cells.proofs.walk.volume.Given as goal

abbrev pub invariant-loop-head : goal.invariant-loop-head
invariant-loop-head l =
    Walk l.n (column l.block 1) (column l.block 2) l.first (volume_of l.block l.first) l.marks l.order l.tail l.head
    × (length l.order ≡ length l.initial.order) × (length l.marks ≡ length l.initial.marks)

abbrev pub decreases-loop-head : goal.decreases-loop-head
decreases-loop-head l =
    l.n - l.head
