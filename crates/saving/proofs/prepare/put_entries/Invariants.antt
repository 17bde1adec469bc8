-- `saving::prepare::put_entries` meets its contract. The loop's invariant (`Entering`): the entries of the blocks below b are put, up to
-- past, and each of these blocks has a file. Assumes nothing.
use Rattle.saving.proofs.Entering.{Entering}
use Rattle.saving.proofs.prepare.put_entries.Given as goal

abbrev pub invariant-loop-b : goal.invariant-loop-b
invariant-loop-b l =
    Entering l.mesh l.k l.initial.out l.out l.past l.b
