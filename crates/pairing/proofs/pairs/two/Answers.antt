-- `pairing::pairs::two` meets its contract.
-- Assumes nothing.
use lib.ListN.{length, get_or, drop}
use Rattle.pairing.specs.Keys.{label_pair}
use Prim.Native.Nat.{◌+◌}
use Rattle.pairing.proofs.Steps.{two_told, first_of}
use Rattle.pairing.proofs.pairs.two.Goals as goal

pub labels_pair-pair-requires : goal.labels_pair-pair-requires
labels_pair-pair-requires c =
    let t = c.args.t in
    let keys = c.args.keys.now in
    (c.requires.0, c.requires.1, c.requires.2 t (first_of (length keys) t c.requires.3), c.requires.2 (t + 1) c.requires.3)

pub returns : goal.returns
returns c =
    let mesh = c.args.mesh.now in
    let table = c.args.table.now in
    let keys = c.args.keys.now in
    let t = c.args.t in
    two_told (label_pair mesh table) (get_or keys t 0) (get_or keys (t + 1) 0) (drop (t + 2) keys) c.fresh-apart.ensures c.labels_pair-pair.ensures
