-- `keyset::high_part` meets its contract: the product fits a word.
-- Assumes nothing.
use mathlib.Core.Path.{refl}
use native.Mathlib.Nat.{mod-lt}
use Rattle.keyset.specs.Slots.{high_part}
use native.Mathlib.Omega.{arith}
use Rattle.keyset.proofs.high_part.Goals as goal

pub returns : goal.returns
unfolding high_part
returns c =
    (refl, mod-lt _ {m = 8192} (omega arith))
