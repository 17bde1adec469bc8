-- `outbox::labels::count_labels` meets its contract. The loop's invariant: the labels of the faces before f are counted.
-- The measure is what is left of the faces. Assumes nothing.
use Prim.Native.Nat.{◌≤◌}
use Rattle.outbox.specs.ByBlocks.{Shares}
use Rattle.outbox.proofs.labels.count_labels.Given as goal

abbrev pub invariant-loop-f : goal.invariant-loop-f
invariant-loop-f l =
    (l.f ≤ l.count) × Shares l.block l.order l.starts l.darts l.count l.f l.labels l.bytes
