-- `parts::locate::locate` meets its contract.
-- Assumes nothing.
use Prim.Native.Nat.{◌≤◌}
use mathlib.Core.Path.{◌≡◌}
use lib.ListN.{length}
use Rattle.parts.specs.Locate.{Located}
use Rattle.parts.proofs.locate.locate.Given as goal

abbrev pub invariant-loop-p : goal.invariant-loop-p
invariant-loop-p l =
    Located l.block l.codes l.c l.p l.places × (l.p ≤ l.n) × (length l.places ≡ length l.initial.places)
