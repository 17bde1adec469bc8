-- `parts::faces::count_up` meets its contract.
-- Assumes nothing.
use Prim.Native.Nat.{◌+◌, ◌≤◌}
use Rattle.parts.specs.Faces.{Over}
use Rattle.parts.proofs.faces.count_up.Given as goal

abbrev pub invariant-loop-j : goal.invariant-loop-j
invariant-loop-j l =
    Over l.first l.j (λ i. l.least + i) l.initial.array l.array × (l.j ≤ l.n)
