-- `parts::entries::read_part4` meets its contract.
-- Assumes nothing.
use mathlib.Core.Path.{◌≡◌}
use mathlib.Core.List.{List}
use lib.ListN.{length}
use Rattle.model.specs.Messages.{FaceDart}
use Rattle.inbox.specs.Inbox.{Sized}
use Rattle.parts.proofs.Reading.{Reading4}
use Rattle.parts.proofs.entries.read_part4.Given as goal

abbrev pub invariant-loop-i : goal.invariant-loop-i
invariant-loop-i l =
    (length l.indices ≡ length l.initial.indices) × (length l.others ≡ length l.initial.others) × (length l.places ≡ length l.initial.places)
    × ((fs : List (List FaceDart)) → Sized fs l.darts l.sizes → Reading4 fs l.sizes l.s l.at l.count l.indices l.others l.places l.i l.p)
