-- `parts::entries::read_pairs` meets its contract.
-- Assumes nothing.
use mathlib.Core.Path.{◌≡◌}
use lib.ListN.{length}
use Rattle.parts.specs.Entries.{pair, first_number, index}
use Rattle.parts.proofs.Reading.{Reading}
use Rattle.parts.proofs.entries.read_pairs.Given as goal

abbrev pub invariant-loop-i : goal.invariant-loop-i
invariant-loop-i l =
    Reading (pair l.part) (first_number l.part) (index l.part) l.s l.at l.count l.firsts l.indices l.i l.p ×
    (length l.firsts ≡ length l.initial.firsts)
    × (length l.indices ≡ length l.initial.indices)
