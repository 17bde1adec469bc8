-- `saving::commit::digest` meets its contract. The loop's invariant (`Digesting`): h is the digest of the bytes before b. Assumes nothing.
use Rattle.saving.proofs.Commits.{Digesting}
use Rattle.saving.proofs.commit.digest.Given as goal

abbrev pub invariant-loop-b : goal.invariant-loop-b
invariant-loop-b l =
    Digesting l.bytes l.h l.b-index
