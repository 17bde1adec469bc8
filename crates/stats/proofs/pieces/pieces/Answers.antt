-- `stats::pieces::pieces` meets its contract: the groups of the block's darts, third links counted, are its pieces. Assumes nothing.
use mathlib.Core.Path.{refl, ◌∙◌}
use mathlib.Core.Bool.{true}
use Rattle.model.specs.Values.{room}
use Rattle.cells.proofs.Resets.{zeros_clear, zeros_long}
use Rattle.stats.proofs.GroupLaws.{joined, group_count}
use Rattle.stats.proofs.pieces.pieces.Goals as goal

pub number-requires : goal.number-requires
number-requires c =
    let j = joined c.args.block.now c.requires in
    let few = j.linked.few in
    record {
      joined = (j, zeros_long _ room refl few, zeros_clear room refl);
      block_in_bounds = (zeros_long _ room refl few, zeros_long _ room refl few);
    }

pub returns : goal.returns
returns c =
    c.number.ensures.count_is ∙ group_count c.args.block.now c.requires true
