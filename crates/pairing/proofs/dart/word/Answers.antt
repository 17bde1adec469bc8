-- `pairing::dart::word` meets its contract.
-- Assumes nothing.
use Rattle.pairing.proofs.ByNumber.{word_read}
use Rattle.pairing.proofs.dart.word.Goals as goal

pub returns : goal.returns
returns c =
    word_read c.args.mesh.now c.args.g c.args.f c.requires.1
