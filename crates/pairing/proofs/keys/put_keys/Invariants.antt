-- `pairing::keys::put_keys` meets its contract.
-- Assumes nothing.
use Rattle.pairing.proofs.Steps.{Putting}
use Rattle.pairing.proofs.keys.put_keys.Given as goal

abbrev pub invariant-loop-p : goal.invariant-loop-p
invariant-loop-p l =
    Putting l.block l.i l.initial.out l.at l.out l.end l.p
