-- `memory::header::make_empty` meets its contract: zeros with the header of an empty block are its image.
-- Assumes nothing.
use Rattle.memory.proofs.Headers.{empty_image}
use Rattle.memory.proofs.header.make_empty.Goals as goal

pub returns : goal.returns
returns c =
    empty_image _ c.args.block.now c.requires c.clear.ensures c.empty.ensures c.write.ensures
