-- `script::blocks::pairs` meets its contract: the measure is the places that are left.
-- Assumes nothing.
use Rattle.std.proofs.Common.{◌≡◌, length}
use Rattle.script.proofs.blocks.pairs.Given as goal

abbrev pub invariant-loop-p : goal.invariant-loop-p
invariant-loop-p l = length l.memory ≡ length l.initial.memory
