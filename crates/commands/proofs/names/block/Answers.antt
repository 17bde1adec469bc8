-- `commands::names::block` meets its contract. Assumes nothing.
use Rattle.model.specs.Text.{bytes}
use Rattle.commands.specs.Names.{block_name}
use Rattle.commands.proofs.names.block.Goals as goal

pub returns : goal.returns
unfolding block_name bytes
returns c =
    rw (c.tens.ensures, c.ones.ensures)
