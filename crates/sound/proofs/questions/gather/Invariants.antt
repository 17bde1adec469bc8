-- `sound::questions::gather` meets its contract: the first c keys are the labels of the darts below i.
-- Assumes nothing.
use mathlib.Core.Path.{◌≡◌}
use lib.ListN.{length}
use Rattle.sound.proofs.Passes.{Gathering}
use Rattle.sound.proofs.questions.gather.Given as goal

abbrev pub invariant-loop-i : goal.invariant-loop-i
invariant-loop-i l =
    Gathering l.block l.n l.keys l.c l.i × (length l.keys ≡ length l.initial.keys)
