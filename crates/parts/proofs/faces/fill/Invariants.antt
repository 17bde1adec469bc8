-- `parts::faces::fill` meets its contract.
-- Assumes nothing.
use Prim.Native.Nat.{◌≤◌}
use Rattle.parts.specs.Faces.{Over}
use Rattle.parts.proofs.faces.fill.Given as goal

abbrev pub invariant-loop-j : goal.invariant-loop-j
invariant-loop-j l =
    Over l.first l.j (λ i. l.word) l.initial.array l.array × (l.j ≤ l.n)
