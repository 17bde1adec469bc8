-- `inbox::faces::read_darts` meets its contract. The loop's invariant: the darts before index i are in the arrays.
-- Assumes nothing.
use Rattle.inbox.proofs.Arrays.{Darts}
use Rattle.inbox.proofs.faces.read_darts.Given as goal

abbrev pub invariant-loop-i : goal.invariant-loop-i
invariant-loop-i l =
    Darts l.s l.at l.first l.size l.initial.vertex l.initial.serial l.initial.starts l.initial.sizes l.i l.p l.vertex l.serial l.starts l.sizes
