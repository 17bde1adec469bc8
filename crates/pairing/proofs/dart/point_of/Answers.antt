-- `pairing::dart::point_of` meets its contract: the point at the dart's place in its block's part.
-- Assumes nothing.
use Rattle.pairing.proofs.ToldBy.{point_ready, point_there}
use Rattle.pairing.proofs.dart.point_of.Goals as goal

pub point_at-requires : goal.point_at-requires
point_at-requires c =
    point_ready c.requires.0 c.requires.1 c.part_of.ensures

pub returns : goal.returns
returns c =
    point_there c.args.mesh.now c.args.g c.part_of.ensures c.point_at.ensures
