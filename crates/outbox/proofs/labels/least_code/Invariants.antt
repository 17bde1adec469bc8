-- `outbox::labels::least_code` meets its contract. The loop's invariant: the least of the darts before k, at least one.
-- The measure is what is left of the face. Assumes nothing.
use mathlib.Core.Path.{◌≡◌}
use Prim.Native.Nat.{◌<◌, ◌≤◌}
use Rattle.outbox.specs.ByBlocks.{least_code}
use Rattle.outbox.proofs.labels.least_code.Given as goal

abbrev pub invariant-loop-k : goal.invariant-loop-k
invariant-loop-k l =
    (0 < l.k) × (l.k ≤ l.size) × (l.least ≡ least_code l.block l.order l.first l.k)
