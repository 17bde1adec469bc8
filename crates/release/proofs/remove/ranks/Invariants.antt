-- `release::remove::ranks` meets its contract. The loop's invariant: the places below p have ranks.
-- The measure is what is left of the places. Assumes nothing.
use mathlib.Core.Path.{◌≡◌}
use lib.ListN.{length}
use Rattle.release.proofs.Removing.{Ranking}
use Rattle.release.proofs.remove.ranks.Given as goal

abbrev pub invariant-loop-p : goal.invariant-loop-p
invariant-loop-p l =
    Ranking l.marks l.n l.table l.kept l.p × (length l.table ≡ length l.initial.table)
