-- `balance::surplus::counts` meets its contract. Assumes nothing.
use Rattle.oracle.specs.Oracle.{oracle_of}
use Rattle.balance.specs.Moves.{count_at}
use Rattle.balance.proofs.SurplusLaws.{Filling}
use Rattle.balance.proofs.surplus.counts.Given as goal

abbrev pub invariant-loop-i : goal.invariant-loop-i
invariant-loop-i l =
    Filling 0 (count_at (oracle_of l.o) l.mesh) l.k l.c l.i
