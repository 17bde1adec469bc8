-- `inbox::parts::pass_entries` meets its contract. The loop's invariant: the first k are passed.
-- Assumes nothing.
use mathlib.Core.List.{List}
use Prim.Native.Nat.{◌-◌}
use Rattle.model.specs.Messages.{FaceDart}
use Rattle.inbox.specs.Inbox.{Sized}
use Rattle.inbox.specs.Parts.{entry}
use Rattle.codec.proofs.Passing.{Passing}
use Rattle.inbox.proofs.parts.pass_entries.Given as goal

abbrev pub invariant-loop-k : goal.invariant-loop-k
invariant-loop-k l =
    (fs : List (List FaceDart)) → Sized fs l.darts l.sizes → Passing (entry l.part fs) l.s l.at l.count (l.count - l.k) l.p
