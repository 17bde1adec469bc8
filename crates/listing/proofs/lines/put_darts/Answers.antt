use Rattle.model.specs.Listing.{dart_line}
use Rattle.savefile.proofs.Pieces.{place_none, place_more, place_all, in_pieces}
use Rattle.listing.proofs.LineTexts.{dart_text, lines_short, line_room}
use native.Mathlib.Omega.{arith}
use Rattle.listing.proofs.lines.put_darts.Goals as goal

pub loop-i-init : goal.loop-i-init
loop-i-init c =
    let block = c.args.block.now in
    let n = c.args.n in
    let at = c.args.at in
    let out = c.args.out.now in
    place_none (dart_text block) n at out (omega (arith, lines_short c.requires.0, c.requires.1))

pub put_dart-past-requires : goal.put_dart-past-requires
put_dart-past-requires c =
    (c.requires.0.each _ c.loop-i-test.true, line_room c.requires.0 c.loop-i.invariant c.loop-i-test.true c.requires.1)

pub loop-i-preserved : goal.loop-i-preserved
loop-i-preserved c =
    place_more c.loop-i.invariant c.loop-i-test.true c.put_dart-past.ensures

pub returns : goal.returns
returns c =
    rw (in_pieces dart_line _ _) (place_all c.loop-i.invariant c.loop-i-test.false)
