-- `mesh::zeros` meets its contract.
-- Assumes nothing.
use lib.ListN.{length}
use Rattle.mesh.proofs.Parts.{Tested, zero_test}
use Rattle.mesh.proofs.zeros.Given as goal

abbrev pub invariant-loop-word : goal.invariant-loop-word
invariant-loop-word l =
    Tested (zero_test l.scratch) (length l.scratch) l.ok l.word-index
