-- `saving::prepare::put_contents` meets its contract. Assumes nothing.
use Rattle.saving.proofs.Prepares.{never_block, never_commit}
use Rattle.saving.proofs.prepare.put_contents.Goals as goal

pub returns-in-NewBlock : goal.returns-in-NewBlock
returns-in-NewBlock c =
    rw c.in-NewBlock.is c.put_file.ensures

pub returns-in-NewCommit : goal.returns-in-NewCommit
returns-in-NewCommit c =
    rw c.in-NewCommit.is c.put_commit.ensures

pub returns-in-Block : goal.returns-in-Block
returns-in-Block c =
    rw c.in-Block.is (never_block _ _ _)

pub returns-in-Commit : goal.returns-in-Commit
returns-in-Commit c =
    rw c.in-Commit.is (never_commit _ _)
