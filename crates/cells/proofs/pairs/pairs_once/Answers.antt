-- `cells::pairs::pairs_once` meets its contract: the colours that are used are cleared first. Assumes nothing.
use Rattle.cells.proofs.Resets.{part_cleared}
use Rattle.cells.proofs.pairs.pairs_once.Goals as goal

pub each_once-requires : goal.each_once-requires
each_once-requires c =
    (c.requires.0, c.requires.1, part_cleared c.args.colours.now c.args.count c.requires.2 c.clear.ensures)
