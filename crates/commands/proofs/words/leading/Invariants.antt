-- `commands::words::leading` meets its contract. The loop's invariant: the bytes before i belong. Assumes nothing.
use mathlib.Core.Path.{◌≡◌}
use Prim.Native.Nat.{◌+◌, ◌≤◌}
use lib.ListN.{length, drop}
use Rattle.commands.specs.Words.{belongs, leading}
use Rattle.commands.proofs.words.leading.Given as goal

abbrev pub invariant-loop-i : goal.invariant-loop-i
invariant-loop-i l =
    (l.i ≤ length l.text) × (l.i + leading (belongs l.kind) (drop l.i l.text) ≡ leading (belongs l.kind) l.text)
