-- `mesh::serials::put_serials` meets its contract.
-- Assumes nothing.
use Rattle.mesh.proofs.Gathers.{Putting}
use Rattle.mesh.proofs.serials.put_serials.Given as goal

abbrev pub invariant-loop-i : goal.invariant-loop-i
invariant-loop-i l =
    Putting l.block l.initial.out l.at l.out l.i
