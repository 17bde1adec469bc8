-- `pairing::dart::points_pair` meets its contract.
-- Assumes nothing.
use Rattle.pairing.proofs.ToldBy.{points_told}
use Rattle.pairing.proofs.dart.points_pair.Goals as goal

pub returns : goal.returns
returns c =
    points_told c.args.mesh.now c.args.x c.args.y c.meet-there.ensures c.meet-back.ensures
