-- `saving::commit::entry_of` meets its contract. Assumes nothing.
use Rattle.saving.specs.Commit.{entry_of}
use Rattle.saving.proofs.commit.entry_of.Goals as goal

pub returns : goal.returns
unfolding entry_of
returns c =
    rw c.digest.ensures
