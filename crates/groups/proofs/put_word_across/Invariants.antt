-- `groups::put_word_across` meets its contract. The loop's invariant: the bytes before b are put, up to p. Assumes nothing.
use mathlib.Core.Path.{◌≡◌}
use Prim.Native.Nat.{◌+◌}
use lib.ListN.{take}
use Rattle.groups.specs.Slices.{Stored}
use Rattle.groups.proofs.put_word_across.Given as goal

abbrev pub invariant-loop-b : goal.invariant-loop-b
invariant-loop-b l =
    (l.p ≡ l.at + l.b-index) × Stored l.initial.out l.at (take l.b-index l.b-items) l.out l.p
