-- `writepages::line::put_blanks` meets its contract: the first i blanks are stored.
-- Assumes nothing.
use Prim.Native.Nat.{◌-◌}
use Rattle.model.specs.Pages.{blanks}
use Rattle.listing.proofs.Copies.{Copying}
use Rattle.writepages.proofs.line.put_blanks.Given as goal

abbrev pub invariant-loop-i : goal.invariant-loop-i
invariant-loop-i l =
    Copying l.initial.out l.at (blanks l.n) l.out l.i

abbrev pub decreases-loop-i : goal.decreases-loop-i
decreases-loop-i l =
    l.n - l.i
