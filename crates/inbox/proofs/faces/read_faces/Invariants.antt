-- `inbox::faces::read_faces` meets its contract. The loop's invariant: the first k faces are in the arrays.
-- Assumes nothing.
use Rattle.inbox.proofs.FaceArrays.{Reading}
use Rattle.inbox.proofs.faces.read_faces.Given as goal

abbrev pub invariant-loop-k : goal.invariant-loop-k
invariant-loop-k l =
    Reading l.s l.at l.count l.k l.darts l.p l.hollow l.vertex l.serial l.starts l.sizes
