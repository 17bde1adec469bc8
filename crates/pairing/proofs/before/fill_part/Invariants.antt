-- `pairing::before::fill_part` meets its contract.
-- Assumes nothing.
use Rattle.pairing.proofs.ByNumber.{Filling}
use Rattle.pairing.proofs.before.fill_part.Given as goal

abbrev pub invariant-loop-p : goal.invariant-loop-p
invariant-loop-p l =
    Filling l.mesh l.i l.n l.table l.p
