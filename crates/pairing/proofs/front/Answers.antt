-- `pairing::front` meets its contract.
-- Assumes nothing.
use lib.Seq.{length-take-le}
use mathlib.Core.Path.{sym}
use native.Mathlib.Omega.{arith}
use Rattle.pairing.proofs.front.Goals as goal

pub slice_bounds-tested-end : goal.slice_bounds-tested-end
slice_bounds-tested-end c =
    sym (length-take-le _ _ (omega arith))

pub tested-requires : goal.tested-requires
tested-requires c =
    (c.requires.0, c.requires.1, c.requires.3)
