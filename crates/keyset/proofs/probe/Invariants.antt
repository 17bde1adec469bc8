-- `keyset::probe` meets its contract: the slots from h on and below t have other keys.
-- Assumes nothing.
use Rattle.keyset.proofs.Spread.{Going}
use Rattle.keyset.proofs.probe.Given as goal

abbrev pub invariant-loop-t : goal.invariant-loop-t
invariant-loop-t l =
    Going l.keys l.table l.x l.h l.t
