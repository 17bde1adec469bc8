-- `join::interleave::merge` meets its contract. The loop's invariant: what is left to interleave, and what stands behind it, is the whole.
-- The measure is what is left of both. Assumes nothing.
use Prim.Native.Nat.{◌+◌}
use Rattle.join.proofs.Interleaving.{Interleaving}
use Rattle.join.proofs.interleave.merge.Given as goal

abbrev pub invariant-loop-i : goal.invariant-loop-i
invariant-loop-i l =
    Interleaving l.initial.block l.draft l.n l.k l.block l.i l.j

abbrev pub decreases-loop-i : goal.decreases-loop-i
decreases-loop-i l =
    l.i + l.j
