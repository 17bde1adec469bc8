-- `rebalance::moves::balance` meets its contract. The loop's invariant: n moves are carried out and written down, and balancing what is
-- left gives the same end. Assumes nothing.
use Rattle.oracle.specs.Oracle.{oracle_of}
use Rattle.rebalance.proofs.Moving.{Moving}
use Rattle.rebalance.proofs.moves.balance.Given as goal

abbrev pub invariant-loop-n : goal.invariant-loop-n
invariant-loop-n l = Moving l.viewers l.initial.mesh (oracle_of l.o) l.initial.scratch l.initial.outbox l.initial.moves l.n l.mesh l.scratch l.outbox l.moves
