-- `redirect::named::all_hit` meets its contract. The loop's invariant: `ok` says whether those before `hit` are marked.
-- Assumes nothing.
use Prim.Native.Nat.{◌≤◌}
use mathlib.Core.Path.{◌≡◌}
use lib.Dec.{eqb}
use lib.ListN.{get_or}
use Rattle.columns.specs.Columns.{all_below}
use Rattle.redirect.proofs.named.all_hit.Given as goal

abbrev pub invariant-loop-hit : goal.invariant-loop-hit
invariant-loop-hit l =
    (l.hit-index ≤ l.c) × (l.ok ≡ all_below (λ j. eqb (get_or l.hits j 0) 1) l.hit-index)
