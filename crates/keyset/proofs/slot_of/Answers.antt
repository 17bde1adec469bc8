-- `keyset::slot_of` meets its contract: the two parts are below 8,192.
-- Assumes nothing.
use mathlib.Core.Path.{refl}
use native.Mathlib.Nat.{mod-lt}
use Rattle.keyset.specs.Slots.{slot_of}
use native.Mathlib.Omega.{arith}
use Rattle.keyset.proofs.slot_of.Goals as goal

pub returns : goal.returns
unfolding slot_of
returns c =
    (rw (c.low_part-a.ensures.0, c.high_part-b.ensures.0) refl, mod-lt _ {m = 8192} (omega arith))
