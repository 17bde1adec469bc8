-- `selection::measure_all` meets its contract. Assumes nothing.
use mathlib.Core.Path.{◌≡◌}
use lib.ListN.{length}
use Rattle.oracle.specs.Oracle.{oracle_of}
use Rattle.selection.proofs.Loops.{Measuring}
use Rattle.selection.proofs.measure_all.Given as goal

abbrev pub invariant-loop-p : goal.invariant-loop-p
invariant-loop-p l =
    Measuring (oracle_of l.o) l.block l.sizes l.marks l.order l.tail l.p × (length l.sizes ≡ length l.initial.sizes) ×
    (length l.order ≡ length l.initial.order) × (length l.marks ≡ length l.initial.marks)
