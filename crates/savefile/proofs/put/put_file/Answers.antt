-- `savefile::put::put_file` meets its contract: header and darts, one stored after the other.
-- Assumes nothing.
use Rattle.model.specs.Values.{widest}
use Rattle.groups.proofs.Writing.{stored_then}
use Rattle.savefile.proofs.FileBytes.{file_put}
use Rattle.savefile.proofs.Sizes.{header_here, image_small}
use Rattle.savefile.proofs.WholeFile.{file_length, file_most}
use native.Mathlib.Omega.{arith}
use Rattle.savefile.proofs.put.put_file.Goals as goal

pub put_header-past_header-requires : goal.put_header-past_header-requires
put_header-past_header-requires c =
    c.requires

pub bounds-block-2 : goal.bounds-block-2
bounds-block-2 c =
    omega (arith, header_here c.args.block.now c.requires)

pub put_darts-requires : goal.put_darts-requires
put_darts-requires c =
    let block = c.args.block.now in
    (image_small block c.requires, omega (arith, file_length widest block, file_most widest block c.requires, c.put_header-past_header.ensures.past))

pub returns : goal.returns
returns c =
    λ lim. rw (file_put lim c.args.block.now) (stored_then c.put_header-past_header.ensures c.put_darts.ensures)
