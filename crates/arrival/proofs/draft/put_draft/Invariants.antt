-- `arrival::draft::put_draft` meets its contract.
-- Assumes nothing.
use mathlib.Core.Path.{◌≡◌}
use lib.ListN.{length}
use Rattle.arrival.specs.Draft.{draft_record}
use Rattle.arrival.proofs.Drafting.{Drafting}
use Rattle.arrival.proofs.draft.put_draft.Given as goal

abbrev pub invariant-loop-p : goal.invariant-loop-p
invariant-loop-p l =
    Drafting (draft_record l.vertex l.starts l.sizes l.keys l.ranks l.opposite l.message l.from) l.k l.draft l.p ×
    (length l.draft ≡ length l.initial.draft)
