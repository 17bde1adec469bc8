-- `balance::first_move` meets its contract. Assumes nothing.
use mathlib.Core.Path.{◌≡◌}
use lib.ListN.{length}
use Rattle.model.specs.Balance.{may_give}
use Rattle.oracle.specs.Oracle.{oracle_of}
use Rattle.mesh.specs.Parts.{block_count}
use Rattle.balance.specs.Moves.{picked_count, moves_from}
use Rattle.balance.proofs.Searches.{Searching}
use Rattle.balance.proofs.first_move.Given as goal

abbrev pub invariant-loop-from : goal.invariant-loop-from
invariant-loop-from l =
    (length l.sizes ≡ length l.initial.sizes) × Searching (λ b. may_give (picked_count (oracle_of l.o) l.mesh b) l.low)
    (moves_from l.viewers (oracle_of l.o) l.mesh) (block_count l.mesh) l.from
