-- `writepages::page::put_page` meets its contract: a first line and the lines behind it, one stored after the other.
-- Assumes nothing.
use Rattle.savefile.proofs.Sizes.{header_here, number_small}
use Rattle.writepages.proofs.PageParts.{few_pages, row_first, first_wide, page_stored}
use native.Mathlib.Omega.{arith}
use Rattle.writepages.proofs.page.put_page.Goals as goal

pub bounds-block-0 : goal.bounds-block-0
bounds-block-0 c =
    omega (arith, header_here c.args.block.now c.requires.0)

pub put_first-past_first-requires : goal.put_first-past_first-requires
put_first-past_first-requires c =
    let block = c.args.block.now in
    let few = few_pages block c.requires.0 c.requires.1 in
    (omega (arith, number_small block c.requires.0), omega (arith, c.requires.2), omega arith, omega (arith, c.requires.3))

pub overflow_mul-k : goal.overflow_mul-k
overflow_mul-k c =
    omega (arith, row_first c.args.block.now c.requires.0 c.requires.1 c.args.k c.requires.2)

pub put_lines-requires : goal.put_lines-requires
put_lines-requires c =
    let block = c.args.block.now in
    let wide = first_wide block c.requires.0 c.requires.1 c.args.k c.requires.2 in (
      c.requires.0,
      row_first block c.requires.0 c.requires.1 c.args.k c.requires.2,
      omega (arith, c.requires.3, c.put_first-past_first.ensures.past),
    )

pub returns : goal.returns
returns c =
    page_stored c.args.block.now c.args.k c.requires.1 c.put_first-past_first.ensures c.put_lines.ensures
