use Rattle.model.specs.Pages.{page_rows}
use Rattle.groups.proofs.Writing.{stored_length}
use Rattle.savefile.proofs.Pieces.{place_more, place_all}
use Rattle.writepages.proofs.PageParts.{concat_pieces, place_even, place_next, lines_from, line_wide}
use Rattle.writepages.proofs.page.put_lines.Goals as goal

pub loop-i-init : goal.loop-i-init
loop-i-init c =
    let block = c.args.block.now in
    place_even (lines_from block c.args.first) 81 page_rows (line_wide block c.requires.0 c.args.first) _ _ c.requires.2

pub put_line-past-requires : goal.put_line-past-requires
put_line-past-requires c =
    let block = c.args.block.now in (
      c.requires.0,
      place_next (lines_from block c.args.first) 81 page_rows (line_wide block c.requires.0 c.args.first) c.loop-i.invariant c.loop-i-test.true,
    )

pub loop-i-preserved : goal.loop-i-preserved
loop-i-preserved c =
    place_more c.loop-i.invariant c.loop-i-test.true c.put_line-past.ensures

pub shape_of-out : goal.shape_of-out
shape_of-out c =
    stored_length c.loop-i.invariant.stored

pub returns : goal.returns
returns c =
    rw (concat_pieces (lines_from c.args.block.now c.args.first) page_rows) (place_all c.loop-i.invariant c.loop-i-test.false)
