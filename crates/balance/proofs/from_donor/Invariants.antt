-- `balance::from_donor` meets its contract. Assumes nothing.
use mathlib.Core.Path.{◌≡◌}
use lib.ListN.{length}
use Rattle.model.specs.Balance.{Oracle}
use Rattle.selection.specs.Picked.{Sizes}
use Rattle.mesh.specs.Parts.{part}
use Rattle.balance.specs.Moves.{CellsCounted}
use Rattle.balance.proofs.MovesLaws.{Giving}
use Rattle.balance.proofs.from_donor.Given as goal

abbrev pub invariant-loop-to : goal.invariant-loop-to
invariant-loop-to l =
    (length l.sizes ≡ length l.initial.sizes) ×
    ((o : Oracle) → CellsCounted o l.mesh l.counts → Sizes o (part l.mesh l.d) l.initial.sizes → Giving l.viewers o l.mesh l.d l.sizes l.to)
