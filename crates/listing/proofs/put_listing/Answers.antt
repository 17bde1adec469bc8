-- `listing::put_listing` meets its contract: the block's line and the lines of the darts, one stored after the other.
-- Assumes nothing.
use Rattle.groups.proofs.Writing.{stored_then}
use Rattle.savefile.proofs.Sizes.{header_here, image_small, count_small}
use Rattle.listing.proofs.Copies.{stored_past, printed}
use Rattle.listing.proofs.LineTexts.{header_short, listing_parts, listing_short}
use native.Mathlib.Omega.{arith}
use Rattle.listing.proofs.put_listing.Goals as goal

pub put_header-past_header-requires : goal.put_header-past_header-requires
put_header-past_header-requires c =
    (c.requires.0, omega (arith, c.requires.1))

pub bounds-block-2 : goal.bounds-block-2
bounds-block-2 c =
    omega (arith, header_here c.args.block.now c.requires.0)

pub put_darts-requires : goal.put_darts-requires
put_darts-requires c =
    let h = stored_past 40 c.put_header-past_header.ensures (header_short c.args.block.now c.requires.0) in
    (image_small c.args.block.now c.requires.0, omega (arith, count_small c.args.block.now c.requires.0, c.requires.1))

pub returns : goal.returns
returns c =
    let h = listing_short c.args.block.now c.requires.0 in
    printed (rw (listing_parts c.args.block.now) (stored_then c.put_header-past_header.ensures c.put_darts.ensures)) (omega (arith, c.requires.1))
