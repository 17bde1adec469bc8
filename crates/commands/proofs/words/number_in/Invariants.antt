-- `commands::words::number_in` meets its contract. The loop's invariant: the digits before i gave n, and what is left gives the same number. Assumes nothing.
use mathlib.Core.Path.{◌≡◌}
use Prim.Native.Nat.{◌^◌, ◌≤◌, ◌<◌}
use lib.ListN.{length, drop}
use Rattle.commands.specs.Words.{digits_from, number_in}
use Rattle.commands.proofs.words.number_in.Given as goal

abbrev pub invariant-loop-i : goal.invariant-loop-i
invariant-loop-i l =
    (l.i ≤ length l.text) × (l.n < 2 ^ 32) × (digits_from l.n (drop l.i l.text) ≡ number_in l.text)
