-- `cells::vertex::number_all` meets its contract. The loop's invariant: the vertices of the darts before i have numbers.
-- The measure is what is left of the darts. Assumes nothing.
use mathlib.Core.Path.{◌≡◌}
use lib.ListN.{length}
use Rattle.model.specs.Image.{column}
use Rattle.cells.proofs.RingLaws.{Passing}
use Rattle.cells.proofs.vertex.number_all.Given as goal

abbrev pub invariant-loop-i : goal.invariant-loop-i
invariant-loop-i l =
    Passing l.n (column l.block 1) (column l.block 2) l.order l.darts l.i l.numbers l.firsts l.count
    × (length l.numbers ≡ length l.initial.numbers) × (length l.firsts ≡ length l.initial.firsts)
