-- `writepages::page::put_line` meets its contract: a row where there is one, blanks where there is none.
-- Assumes nothing.
use Rattle.savefile.proofs.Sizes.{header_here, image_small}
use Rattle.theory.proofs.PagedBlocks.{line_row, line_none}
use native.Mathlib.Omega.{arith}
use Rattle.writepages.proofs.page.put_line.Goals as goal

pub bounds-block-2 : goal.bounds-block-2
bounds-block-2 c =
    omega (arith, header_here c.args.block.now c.requires.0)

pub put_row-requires : goal.put_row-requires
put_row-requires c =
    ((image_small c.args.block.now c.requires.0).each c.args.i c.if-i-block.true, omega (arith, c.requires.1))

pub returns-then-i-block : goal.returns-then-i-block
returns-then-i-block c =
    rw (line_row c.args.block.now c.args.i c.if-i-block.true) c.put_row.ensures

pub returns : goal.returns
returns c =
    rw (line_none c.args.block.now c.args.i c.if-i-block.false) c.put_blank.ensures
