-- `selection::count` meets its contract. Assumes nothing.
use mathlib.Core.Path.{refl}
use Rattle.model.specs.Values.{room}
use Rattle.oracle.specs.Oracle.{oracle_of}
use Rattle.cells.proofs.Resets.{zeros_long}
use Rattle.cells.proofs.Sited.{sited}
use Rattle.selection.proofs.Loops.{picked_count}
use native.Mathlib.Omega.{arith}
use Rattle.selection.proofs.count.Goals as goal

pub sizes_of-requires : goal.sizes_of-requires
sizes_of-requires c =
    (c.requires, zeros_long _ room refl (sited c.args.block.now c.requires).linked.few)

pub bounds-block-2 : goal.bounds-block-2
bounds-block-2 c =
    omega (arith, (sited c.args.block.now c.requires).linked.size)

pub count_of-requires : goal.count_of-requires
count_of-requires c =
    ((sited c.args.block.now c.requires).linked.few, c.sizes_of.ensures.len)

pub returns : goal.returns
returns c =
    picked_count (oracle_of c.args.o) c.args.block.now _ c.requires c.sizes_of.ensures c.count_of.ensures
