-- `arrival::serials::all_new` meets its contract.
-- Assumes nothing.
use Prim.Native.Nat.{◌≤◌}
use lib.ListN.{get_or}
use Rattle.arrival.specs.Draft.{is_new}
use Rattle.arrival.proofs.Steps.{Passing}
use Rattle.arrival.proofs.serials.all_new.Given as goal

abbrev pub invariant-loop-i : goal.invariant-loop-i
invariant-loop-i l =
    (l.near ≤ l.n) × Passing (λ j. is_new l.block (get_or l.serial j 0)) l.i
