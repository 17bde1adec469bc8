-- `join::sewing::sew` meets its contract.
-- Assumes nothing.
use Prim.Native.Nat.{◌≤◌}
use Rattle.join.specs.Thirds.{Sewn}
use Rattle.join.proofs.sewing.sew.Given as goal

abbrev pub invariant-loop-i : goal.invariant-loop-i
invariant-loop-i l =
    Sewn l.initial.block l.kinds l.links l.ranks l.old l.new l.i l.block × (l.i ≤ l.k)
