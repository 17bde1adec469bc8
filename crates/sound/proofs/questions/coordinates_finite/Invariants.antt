-- `sound::questions::coordinates_finite` meets its contract: the points below i are finite.
-- Assumes nothing.
use mathlib.Core.Path.{◌≡◌}
use lib.ListN.{get_or}
use Rattle.columns.proofs.Points.{finite_test}
use Rattle.sound.proofs.Passes.{Going}
use Rattle.sound.proofs.questions.coordinates_finite.Given as goal

abbrev pub invariant-loop-i : goal.invariant-loop-i
invariant-loop-i l =
    Going (finite_test l.block) (get_or l.block 2 0) l.i × (l.n ≡ get_or l.block 2 0)
