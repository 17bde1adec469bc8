-- `sound::questions::thirds_right` meets its contract: the third links below i are right.
-- Assumes nothing.
use mathlib.Core.Path.{◌≡◌}
use lib.ListN.{get_or}
use Rattle.columns.specs.Columns.{third_test}
use Rattle.sound.proofs.Passes.{Going}
use Rattle.sound.proofs.questions.thirds_right.Given as goal

abbrev pub invariant-loop-i : goal.invariant-loop-i
invariant-loop-i l =
    Going (third_test l.block l.n) l.n l.i × (l.n ≡ get_or l.block 2 0)
