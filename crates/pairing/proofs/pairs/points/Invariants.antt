-- `pairing::pairs::points` meets its contract.
-- Assumes nothing.
use Prim.Native.Nat.{◌*◌}
use Rattle.pairing.specs.Keys.{point_pair}
use Rattle.pairing.proofs.Steps.{EachLeft}
use Rattle.pairing.proofs.pairs.points.Given as goal

abbrev pub invariant-loop-h : goal.invariant-loop-h
invariant-loop-h l =
    EachLeft (point_pair l.mesh) l.keys (2 * l.h)
