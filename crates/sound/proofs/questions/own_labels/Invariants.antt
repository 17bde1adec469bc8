-- `sound::questions::own_labels` meets its contract: the labels below i are right.
-- Assumes nothing.
use mathlib.Core.Path.{◌≡◌}
use lib.ListN.{get_or}
use Rattle.columns.specs.Columns.{own_test}
use Rattle.sound.proofs.Passes.{Going}
use Rattle.sound.proofs.questions.own_labels.Given as goal

abbrev pub invariant-loop-i : goal.invariant-loop-i
invariant-loop-i l =
    Going (own_test l.block) l.n l.i × (l.me ≡ get_or l.block 0 0) × (l.counter ≡ get_or l.block 1 0)
