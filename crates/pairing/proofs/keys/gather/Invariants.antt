-- `pairing::keys::gather` meets its contract.
-- Assumes nothing.
use Rattle.mesh.proofs.Gathers.{Gathering}
use Rattle.pairing.specs.Keys.{all_keys}
use Rattle.pairing.proofs.keys.gather.Given as goal

abbrev pub invariant-loop-i : goal.invariant-loop-i
invariant-loop-i l =
    Gathering (all_keys l.mesh) l.mesh l.out l.c l.i
