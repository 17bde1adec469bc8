-- `keyset::search_slots` meets its contract: the keys below i differ, and each is in a slot.
-- Assumes nothing.
use Prim.Native.Nat.{◌≤◌}
use Rattle.keyset.proofs.Spread.{Spread}
use Rattle.keyset.proofs.search_slots.Given as goal

abbrev pub invariant-loop-i : goal.invariant-loop-i
invariant-loop-i l =
    Spread l.keys l.table l.i × (l.i ≤ l.n)
