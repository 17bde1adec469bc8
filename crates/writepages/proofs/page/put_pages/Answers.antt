use Rattle.model.specs.Image.{block_in}
use Rattle.model.specs.Pages.{paged, page}
use Rattle.groups.proofs.Writing.{stored_length}
use Rattle.savefile.proofs.Pieces.{place_more, place_all}
use Rattle.writepages.proofs.PageParts.{place_even, place_next, page_wide, pages_stored}
use native.Mathlib.Omega.{arith}
use Rattle.writepages.proofs.page.put_pages.Goals as goal

pub loop-k-init : goal.loop-k-init
loop-k-init c =
    let block = c.args.block.now in
    place_even (page (paged (block_in block))) 4860 c.args.pages (page_wide block c.requires.0 c.requires.1) 0 _ (omega (arith, c.requires.2))

pub put_page-past-requires : goal.put_page-past-requires
put_page-past-requires c =
    let block = c.args.block.now in
    let next = place_next (page (paged (block_in block))) 4860 c.args.pages (page_wide block c.requires.0 c.requires.1) c.loop-k.invariant
    c.loop-k-test.true in
    (c.requires.0, c.requires.1, c.loop-k-test.true, next)

pub loop-k-preserved : goal.loop-k-preserved
loop-k-preserved c =
    place_more c.loop-k.invariant c.loop-k-test.true c.put_page-past.ensures

pub shape_of-out : goal.shape_of-out
shape_of-out c =
    stored_length c.loop-k.invariant.stored

pub returns : goal.returns
returns c =
    pages_stored c.args.block.now c.requires.1 (place_all c.loop-k.invariant c.loop-k-test.false)
