-- `vectors::meshes::digest` meets its contract.
-- Assumes nothing.
use Prim.Native.Nat.{◌-◌, ◌≤◌}
use Rattle.vectors.proofs.meshes.digest.Given as goal

abbrev pub invariant-loop-i : goal.invariant-loop-i
invariant-loop-i l =
    l.i ≤ 32776

abbrev pub decreases-loop-i : goal.decreases-loop-i
decreases-loop-i l =
    32776 - l.i
