-- `pairing::dart::meet` meets its contract: two points by value.
-- Assumes nothing.
use Rattle.pairing.proofs.ToldBy.{next_held, point_fine, meet_told}
use Rattle.pairing.proofs.dart.meet.Goals as goal

pub point_of-there-requires : goal.point_of-there-requires
point_of-there-requires c =
    (c.requires.0, next_held c.requires.0 c.requires.2 c.next.ensures)

pub same_point-requires : goal.same_point-requires
same_point-requires c =
    let asked = c.requires.0 in
    (point_fine asked c.requires.1 c.point_of-here.ensures, point_fine asked (next_held asked c.requires.2 c.next.ensures) c.point_of-there.ensures)

pub returns : goal.returns
returns c =
    let asked = c.requires.0 in
    meet_told asked c.args.h c.requires.1 (next_held asked c.requires.2 c.next.ensures) c.next.ensures c.point_of-here.ensures
    c.point_of-there.ensures c.same_point.ensures
