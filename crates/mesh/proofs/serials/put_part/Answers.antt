-- `mesh::serials::put_part` meets its contract. Assumes nothing.
use Rattle.mesh.proofs.Gathers.{part_asked, part_told}
use Rattle.mesh.proofs.serials.put_part.Goals as goal

pub put_serials-requires : goal.put_serials-requires
put_serials-requires c =
    part_asked c.args.mesh.now c.args.i c.part_of.ensures c.requires.0 c.requires.1 c.args.at c.requires.2

pub returns : goal.returns
returns c =
    part_told c.args.mesh.now c.args.i c.part_of.ensures c.requires.0 c.requires.1 c.put_serials.ensures.0 c.put_serials.ensures.1
