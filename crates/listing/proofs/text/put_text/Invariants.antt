-- `listing::text::put_text` meets its contract: the bytes of the text below i are stored.
-- Assumes nothing.
use Prim.Native.Nat.{◌-◌}
use lib.ListN.{length}
use Rattle.listing.proofs.Copies.{Copying}
use Rattle.listing.proofs.text.put_text.Given as goal

abbrev pub invariant-loop-i : goal.invariant-loop-i
invariant-loop-i l =
    Copying l.initial.out l.at l.text l.out l.i

abbrev pub decreases-loop-i : goal.decreases-loop-i
decreases-loop-i l =
    length l.text - l.i
