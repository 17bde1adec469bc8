-- `arrival::serials::last_of` meets its contract. The loop's invariant: a place with the serial is one of `left` places from `low` on.
-- Assumes nothing.
use Rattle.model.specs.Image.{column}
use Rattle.memory.proofs.Lookups.{Halving}
use Rattle.arrival.proofs.serials.last_of.Given as goal

abbrev pub invariant-loop-left : goal.invariant-loop-left
invariant-loop-left l =
    Halving l.n (column l.block 0) l.serial l.low l.left

abbrev pub decreases-loop-left : goal.decreases-loop-left
decreases-loop-left l =
    l.left
