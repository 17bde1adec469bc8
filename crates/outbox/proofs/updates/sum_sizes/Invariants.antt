-- `outbox::updates::sum_sizes` meets its contract. The loop's invariant: the messages before block k take so many bytes.
-- The measure is what is left of the blocks. Assumes nothing.
use mathlib.Core.Path.{◌≡◌}
use Prim.Native.Nat.{◌*◌, ◌≤◌, ◌^◌}
use Rattle.outbox.specs.ByBlocks.{sizes_for}
use Rattle.outbox.proofs.updates.sum_sizes.Given as goal

abbrev pub invariant-loop-k : goal.invariant-loop-k
invariant-loop-k l =
    (l.k ≤ 16) × (l.size ≡ sizes_for l.to l.labels l.bytes l.k) × (l.size ≤ l.k * 2 ^ 18)
