-- `pairing::before::fill` meets its contract.
-- Assumes nothing.
use Rattle.pairing.specs.Numbers.{BeforeBelow}
use Rattle.pairing.proofs.before.fill.Given as goal

abbrev pub invariant-loop-i : goal.invariant-loop-i
invariant-loop-i l =
    BeforeBelow l.mesh l.table l.i 0
