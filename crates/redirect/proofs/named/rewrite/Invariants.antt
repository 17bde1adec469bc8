-- `redirect::named::rewrite` meets its contract. The loop's invariant: the words at the places below p are set.
-- Assumes nothing.
use Prim.Native.Nat.{◌≤◌}
use lib.Dec.{ltb}
use lib.ListN.{get_or}
use Rattle.redirect.specs.ByPlaces.{Rewritten}
use Rattle.redirect.proofs.named.rewrite.Given as goal

abbrev pub invariant-loop-p : goal.invariant-loop-p
invariant-loop-p l =
    (l.p ≤ l.n) × Rewritten l.initial.block l.block (λ q. ltb (get_or l.table q 0) l.c) l.word l.p
