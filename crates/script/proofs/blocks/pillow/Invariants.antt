-- `script::blocks::pillow` meets its contract: the measure is the darts that are left.
-- Assumes nothing.
use Rattle.std.proofs.Common.{◌≡◌, length}
use Rattle.script.proofs.blocks.pillow.Given as goal

abbrev pub invariant-loop-i : goal.invariant-loop-i
invariant-loop-i l = length l.memory ≡ length l.initial.memory
