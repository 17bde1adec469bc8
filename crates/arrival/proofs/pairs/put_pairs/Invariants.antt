-- `arrival::pairs::put_pairs` meets its contract.
-- Assumes nothing.
use mathlib.Core.Path.{◌≡◌}
use lib.ListN.{length}
use Rattle.arrival.proofs.Steps.{Pairing}
use Rattle.arrival.proofs.pairs.put_pairs.Given as goal

abbrev pub invariant-loop-i : goal.invariant-loop-i
invariant-loop-i l =
    Pairing l.vertex l.starts l.sizes l.k l.pairs l.ok l.i × (length l.pairs ≡ length l.initial.pairs)
