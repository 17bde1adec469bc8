-- `pairing::keys::put_part` meets its contract. Assumes nothing.
use lib.ListN.{length}
use Rattle.pairing.proofs.ToldBy.{part_asked, part_told}
use Rattle.pairing.proofs.keys.put_part.Goals as goal

pub put_keys-requires : goal.put_keys-requires
put_keys-requires c =
    let out = c.args.out.now in
    part_asked c.args.mesh.now c.args.i c.part_of.ensures c.requires.0 c.requires.1 c.args.at (length out) c.requires.2

pub returns : goal.returns
returns c =
    part_told c.args.mesh.now c.args.i c.part_of.ensures c.requires.0 c.requires.1 c.put_keys.ensures
