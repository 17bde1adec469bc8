-- `arrival::pairs::edges` meets its contract. The loop's invariant: the first h pairs of keys are edges.
-- Assumes nothing.
use Prim.Native.Nat.{◌*◌}
use mathlib.Core.Path.{◌≡◌}
use lib.ListN.{length}
use Rattle.arrival.proofs.EdgeLaws.{Coupling}
use Rattle.arrival.proofs.pairs.edges.Given as goal

abbrev pub invariant-loop-h : goal.invariant-loop-h
invariant-loop-h l =
    Coupling l.keys l.k l.opposite (2 * l.h) × (length l.opposite ≡ length l.initial.opposite)
