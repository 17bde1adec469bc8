-- `commands::names::of_block` meets its contract. Assumes nothing.
use Rattle.model.specs.Text.{bytes}
use Rattle.commands.specs.Names.{block_name, name_of}
use Rattle.commands.proofs.names.of_block.Goals as goal

pub returns : goal.returns
unfolding name_of block_name bytes
returns c =
    rw (c.tens.ensures, c.ones.ensures)
