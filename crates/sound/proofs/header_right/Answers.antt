-- `sound::header_right` meets its contract: each word of the header is read and tested once.
-- Assumes nothing.
use Rattle.sound.proofs.Whole.{header_by}
use Rattle.sound.proofs.header_right.Goals as goal

pub returns : goal.returns
returns c =
    header_by c.args.block.now c.args.limits.block c.requires.1
