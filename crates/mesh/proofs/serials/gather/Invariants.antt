-- `mesh::serials::gather` meets its contract.
-- Assumes nothing.
use Rattle.mesh.proofs.Gathers.{Gathering}
use Rattle.mesh.specs.Parts.{gathered}
use Rattle.mesh.proofs.serials.gather.Given as goal

abbrev pub invariant-loop-i : goal.invariant-loop-i
invariant-loop-i l =
    Gathering (gathered l.mesh) l.mesh l.out l.c l.i
