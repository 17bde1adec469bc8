-- `parts::meets::walk_face` meets its contract.
-- Assumes nothing.
use Prim.Native.Nat.{◌-◌, ◌≤◌}
use lib.ListN.{length}
use Rattle.model.specs.Cells.{cycle}
use Rattle.model.specs.Image.{column}
use Rattle.cells.proofs.Paths.{Going, Writing}
use Rattle.parts.proofs.meets.walk_face.Given as goal

abbrev pub invariant-loop-i : goal.invariant-loop-i
invariant-loop-i l =
    Going l.n (column l.block 1) l.first (length (cycle (column l.block 1) l.first)) (l.i - 0) l.p × Writing (column l.block 1) l.first 0
    l.initial.trail l.trail l.i × (l.i ≤ l.size)
