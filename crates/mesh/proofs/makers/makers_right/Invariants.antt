-- `mesh::makers::makers_right` meets its contract.
-- Assumes nothing.
use Rattle.sound.proofs.Passes.{Going}
use Rattle.mesh.specs.Parts.{part, made_block}
use Rattle.mesh.proofs.makers.makers_right.Given as goal

abbrev pub invariant-loop-i : goal.invariant-loop-i
invariant-loop-i l =
    Going (λ j. made_block l.mesh (part l.mesh j)) l.k l.i
