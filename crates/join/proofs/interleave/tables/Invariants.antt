-- `join::interleave::tables` meets its contract. The loop's invariant: the darts from i and j on have their places.
-- The measure is what is left of both. Assumes nothing.
use Prim.Native.Nat.{◌+◌}
use mathlib.Core.Path.{◌≡◌}
use lib.ListN.{length}
use Rattle.model.specs.Image.{column}
use Rattle.join.proofs.Interleaving.{Placing}
use Rattle.join.proofs.interleave.tables.Given as goal

abbrev pub invariant-loop-i : goal.invariant-loop-i
invariant-loop-i l =
    Placing (column l.block 0) l.n (column l.draft 0) l.k l.old l.new l.i l.j × (length l.old ≡ length l.initial.old) ×
    (length l.new ≡ length l.initial.new)

abbrev pub decreases-loop-i : goal.decreases-loop-i
decreases-loop-i l =
    l.i + l.j
