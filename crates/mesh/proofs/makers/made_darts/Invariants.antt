-- `mesh::makers::made_darts` meets its contract.
-- Assumes nothing.
use Rattle.sound.proofs.Passes.{Going}
use Rattle.mesh.specs.Parts.{made_darts}
use Rattle.mesh.proofs.makers.made_darts.Given as goal

abbrev pub invariant-loop-p : goal.invariant-loop-p
invariant-loop-p l =
    Going (made_darts l.mesh l.block) l.n l.p
