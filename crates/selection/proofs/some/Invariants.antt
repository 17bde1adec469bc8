-- `selection::some` meets its contract. Assumes nothing.
use Rattle.oracle.specs.Oracle.{oracle_of}
use Rattle.selection.specs.Picked.{holds_at}
use Rattle.selection.proofs.Loops.{Looking}
use Rattle.selection.proofs.some.Given as goal

abbrev pub invariant-loop-i : goal.invariant-loop-i
invariant-loop-i l =
    Looking (holds_at (oracle_of l.o) l.second l.block) l.order l.from l.i
