-- `vectors::meshes::read_mesh` meets its contract.
-- Assumes nothing.
use Prim.Native.Nat.{◌-◌, ◌≤◌}
use mathlib.Core.Path.{◌≡◌}
use lib.ListN.{length}
use Rattle.vectors.proofs.meshes.read_mesh.Given as goal

abbrev pub invariant-loop-b : goal.invariant-loop-b
invariant-loop-b l =
    (length l.mesh ≡ length l.initial.mesh) × (l.b ≤ l.k)

abbrev pub decreases-loop-b : goal.decreases-loop-b
decreases-loop-b l =
    l.k - l.b
