-- `system::files::read_full` meets its contract. The measure is what is left of the room. Assumes nothing.
use Rattle.std.proofs.Common.{◌-◌, ◌≡◌, ◌≤◌, length}
use Rattle.system.proofs.files.read_full.Given as goal

abbrev pub invariant-loop-n : goal.invariant-loop-n
invariant-loop-n g l =
    (length l.room ≡ length l.initial.room) × (l.n ≤ length l.room)

abbrev pub decreases-loop-n : goal.decreases-loop-n
decreases-loop-n g l =
    length l.initial.room - l.n
