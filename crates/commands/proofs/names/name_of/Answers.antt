-- `commands::names::name_of` meets its contract. Assumes nothing.
use Rattle.model.specs.Text.{bytes}
use Rattle.commands.specs.Names.{block_name, name_of, file_named}
use Rattle.commands.proofs.names.name_of.Goals as goal

pub returns-in-Block : goal.returns-in-Block
unfolding file_named name_of block_name bytes
returns-in-Block c =
    rw (c.in-Block.is, c.of_block.ensures)

pub returns-in-NewBlock : goal.returns-in-NewBlock
unfolding file_named name_of block_name bytes
returns-in-NewBlock c =
    rw (c.in-NewBlock.is, c.of_new_block.ensures)

pub returns-in-Commit : goal.returns-in-Commit
unfolding file_named name_of block_name bytes
returns-in-Commit c =
    rw c.in-Commit.is

pub returns-in-NewCommit : goal.returns-in-NewCommit
unfolding file_named name_of block_name bytes
returns-in-NewCommit c =
    rw c.in-NewCommit.is
