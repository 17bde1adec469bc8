-- `pairing::with_room` meets its contract.
-- Assumes nothing.
use Prim.Native.Nat.{ℕ}
use lib.ListN.{length-replicate}
use Rattle.pairing.proofs.with_room.Goals as goal

pub ordered-requires : goal.ordered-requires
ordered-requires c =
    (c.requires.0, c.requires.1, c.requires.2, length-replicate {A = ℕ} 65536 0, c.requires.3)
