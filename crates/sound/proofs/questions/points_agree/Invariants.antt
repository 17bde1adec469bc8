-- `sound::questions::points_agree` meets its contract: the points below i agree.
-- Assumes nothing.
use mathlib.Core.Path.{◌≡◌}
use lib.ListN.{get_or}
use Rattle.columns.specs.Columns.{point_test}
use Rattle.sound.proofs.Passes.{Going}
use Rattle.sound.proofs.questions.points_agree.Given as goal

abbrev pub invariant-loop-i : goal.invariant-loop-i
invariant-loop-i l =
    Going (point_test l.block) (get_or l.block 2 0) l.i × (l.n ≡ get_or l.block 2 0)
