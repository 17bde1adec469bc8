-- `dmap::put_surpluses` meets its contract. Assumes nothing.
use Rattle.dmap.proofs.Through.{Putting}
use Rattle.dmap.proofs.put_surpluses.Given as goal

abbrev pub invariant-loop-i : goal.invariant-loop-i
invariant-loop-i l =
    Putting l.initial.answer l.surplus l.answer l.i
