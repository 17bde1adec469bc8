-- `savefile::long_enough` meets its contract: the greatest file fits, or the file was counted. Assumes nothing.
use native.Mathlib.Omega.{arith}
use Rattle.savefile.proofs.Sizes.{header_here, count_small}
use Rattle.savefile.proofs.WholeFile.{fits_surely, fits_counted}
use Rattle.savefile.proofs.long_enough.Goals as goal

pub bounds-block-2 : goal.bounds-block-2
bounds-block-2 c =
    omega (arith, header_here c.args.block.now c.requires)

pub overflow_mul-darts : goal.overflow_mul-darts
overflow_mul-darts c =
    omega (arith, count_small c.args.block.now c.requires)

pub overflow_add-darts : goal.overflow_add-darts
overflow_add-darts c =
    omega (arith, count_small c.args.block.now c.requires)

pub returns-then-darts-room : goal.returns-then-darts-room
returns-then-darts-room c =
    λ lim. fits_surely lim c.args.block.now c.args.room c.requires c.if-darts-room.true

pub returns : goal.returns
returns c =
    λ lim. fits_counted lim c.args.block.now c.args.room (c.put_file-size.ensures lim).past
