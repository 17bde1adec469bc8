-- `pairing::dart::labels_pair` meets its contract.
-- Assumes nothing.
use Rattle.pairing.proofs.ToldBy.{labels_told}
use Rattle.pairing.proofs.dart.labels_pair.Goals as goal

pub returns : goal.returns
returns c =
    labels_told c.args.mesh.now c.args.table.now c.args.x c.args.y c.side-there.ensures c.side-back.ensures
