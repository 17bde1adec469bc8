-- `sound::questions::links_pass` meets its contract: the links below i are right, and the nexts are marked, no two the same.
-- Assumes nothing.
use mathlib.Core.Path.{◌≡◌}
use lib.ListN.{length}
use Rattle.model.specs.Image.{column}
use Rattle.columns.specs.Columns.{link_test}
use Rattle.sound.proofs.Passes.{Passing}
use Rattle.sound.proofs.questions.links_pass.Given as goal

abbrev pub invariant-loop-i : goal.invariant-loop-i
invariant-loop-i l =
    Passing (link_test l.block l.n) (column l.block 1) l.n l.seen l.i × (length l.seen ≡ length l.initial.seen)
