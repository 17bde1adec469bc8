-- `parts::numbers::neither` meets its contract.
-- Assumes nothing.
use Prim.Native.Nat.{◌≤◌}
use mathlib.Core.Path.{◌≡◌}
use Rattle.model.specs.Lists.{all, tab}
use Rattle.parts.specs.Numbers.{neither_at}
use Rattle.parts.proofs.numbers.neither.Given as goal

abbrev pub invariant-loop-other : goal.invariant-loop-other
invariant-loop-other l =
    (l.ok ≡ all (neither_at l.others l.from l.to) (tab (λ j. j) l.other-index)) × (l.other-index ≤ l.c)
