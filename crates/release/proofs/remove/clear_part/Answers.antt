-- `release::remove::clear_part` meets its contract: the part that is lent comes back as zeros. Assumes nothing.
use Rattle.release.proofs.Removing.{part_cleared}
use Rattle.release.proofs.remove.clear_part.Goals as goal

pub returns : goal.returns
returns c =
    part_cleared c.args.block.now c.args.a c.args.e c.requires.0 c.requires.1 c.clear.ensures
