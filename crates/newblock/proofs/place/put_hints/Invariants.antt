-- `newblock::place::put_hints` meets its contract: it stays within its tables, and ends. Assumes nothing.
use Rattle.std.proofs.Common.{◌≡◌, length}
use Rattle.newblock.proofs.place.put_hints.Given as goal

abbrev pub invariant-loop-i : goal.invariant-loop-i
invariant-loop-i l =
    (length l.first ≡ length l.initial.first) × (length l.second ≡ length l.initial.second)
