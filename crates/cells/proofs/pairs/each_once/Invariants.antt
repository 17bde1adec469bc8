-- `cells::pairs::each_once` meets its contract. The loop's invariant: the ends of the vertices before a differ.
-- The measure is what is left of the vertices. Assumes nothing.
use mathlib.Core.Path.{◌≡◌}
use mathlib.Core.Bool.{true}
use mathlib.Core.List.{◌∷◌}
use Prim.Native.Nat.{ℕ, ◌≤◌, ◌<◌}
use lib.ListN.{length, get_or}
use Rattle.model.specs.Lists.{distinct}
use Rattle.model.specs.Image.{column}
use Rattle.cells.specs.Places.{ends_of}
use Rattle.cells.proofs.pairs.each_once.Given as goal

abbrev pub invariant-loop-a : goal.invariant-loop-a
invariant-loop-a l =
    (l.a ≤ l.count) × (length l.colours ≡ l.count) × ((b : ℕ) → get_or l.colours b 0 ≤ l.a)
    × ((k : ℕ) → k < l.a → distinct (k ∷ ends_of (column l.block 1) (column l.block 2) l.numbers (get_or l.firsts k 0)) ≡ true)
