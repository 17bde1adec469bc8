-- `selection::count_of` meets its contract. Assumes nothing.
use Prim.Native.Nat.{◌≤◌}
use mathlib.Core.Path.{◌≡◌}
use lib.Dec.{ltb}
use lib.ListN.{get_or}
use Rattle.selection.proofs.Loops.{count_below}
use Rattle.selection.proofs.count_of.Given as goal

abbrev pub invariant-loop-s : goal.invariant-loop-s
invariant-loop-s l =
    (l.s-index ≤ l.n) × (l.c ≡ count_below (λ x. ltb 0 (get_or l.sizes x 0)) l.s-index)
