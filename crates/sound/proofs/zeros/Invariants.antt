-- `sound::zeros` meets its contract: the words from a on and below i are zero, if ok.
-- Assumes nothing.
use Prim.Native.Nat.{◌-◌, ◌≤◌}
use lib.ListN.{length}
use Rattle.sound.proofs.Passes.{Zeroing}
use Rattle.sound.proofs.zeros.Given as goal

abbrev pub invariant-loop-i : goal.invariant-loop-i
invariant-loop-i l =
    (l.i ≤ length l.block) × Zeroing l.block l.a l.ok l.i

abbrev pub decreases-loop-i : goal.decreases-loop-i
decreases-loop-i l =
    length l.block - l.i
