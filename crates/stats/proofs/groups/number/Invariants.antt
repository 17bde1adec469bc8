-- `stats::groups::number` meets its contract. The loop's invariant (`Through`): the groups of the places below p have their numbers, and no
-- other place is in a group. Assumes nothing.
use mathlib.Core.Path.{◌≡◌}
use lib.ListN.{length}
use Rattle.stats.proofs.Numbering.{Through}
use Rattle.stats.proofs.groups.number.Given as goal

abbrev pub invariant-loop-p : goal.invariant-loop-p
invariant-loop-p l =
    Through l.third l.block l.groups l.firsts l.order l.count l.tail l.p × (length l.groups ≡ length l.initial.groups) ×
    (length l.firsts ≡ length l.initial.firsts) × (length l.order ≡ length l.initial.order)
