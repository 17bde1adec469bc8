-- `parts::meets::all_meet` meets its contract.
-- Assumes nothing.
use Prim.Native.Nat.{◌≤◌}
use mathlib.Core.Path.{◌≡◌}
use Rattle.model.specs.Lists.{all, tab}
use Rattle.parts.specs.Meets.{meets_at}
use Rattle.parts.proofs.meets.all_meet.Given as goal

abbrev pub invariant-loop-j : goal.invariant-loop-j
invariant-loop-j l =
    (l.ok ≡ all (meets_at l.block l.draft l.ranks l.first l.size l.trail) (tab (λ i. i) l.j)) × (l.j ≤ l.size)
