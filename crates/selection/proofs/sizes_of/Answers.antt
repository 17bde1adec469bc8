-- `selection::sizes_of` meets its contract. Assumes nothing.
use mathlib.Core.Path.{refl}
use Rattle.model.specs.Values.{room}
use Rattle.cells.proofs.Resets.{zeros_clear, zeros_long}
use Rattle.selection.proofs.Loops.{walkable}
use Rattle.selection.proofs.sizes_of.Goals as goal

pub measure_all-requires : goal.measure_all-requires
measure_all-requires c =
    let can-walk = walkable c.args.block.now c.requires.0 in
    let few = can-walk.linked.few in
    record { walkable = (can-walk, c.requires.1, zeros_long _ room refl few); block_in_bounds = (zeros_long _ room refl few, zeros_clear room refl) }
