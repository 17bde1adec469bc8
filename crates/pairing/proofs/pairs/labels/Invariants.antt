-- `pairing::pairs::labels` meets its contract.
-- Assumes nothing.
use Prim.Native.Nat.{◌*◌}
use Rattle.pairing.specs.Keys.{label_pair}
use Rattle.pairing.proofs.Steps.{PairsLeft}
use Rattle.pairing.proofs.pairs.labels.Given as goal

abbrev pub invariant-loop-h : goal.invariant-loop-h
invariant-loop-h l =
    PairsLeft (label_pair l.mesh l.table) l.keys (2 * l.h)
