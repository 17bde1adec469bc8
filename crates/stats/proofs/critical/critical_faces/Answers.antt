-- `stats::critical::critical_faces` meets its contract: with every place marked, message order has all faces of the block. Assumes nothing.
use mathlib.Core.Path.{refl, ◌∙◌}
use lib.ListN.{get_or}
use Rattle.model.specs.Values.{room}
use Rattle.cells.proofs.Sited.{sited}
use Rattle.cells.proofs.Resets.{zeros_clear, zeros_long}
use Rattle.stats.proofs.CriticalFaces.{ones_long, all_closed, all_count, order_all, critical_count}
use native.Mathlib.Omega.{arith}
use Rattle.stats.proofs.critical.critical_faces.Goals as goal

pub bounds-block-2 : goal.bounds-block-2
bounds-block-2 c =
    omega (arith, (sited c.args.block.now c.requires).linked.size)

pub scanned_order-order-requires : goal.scanned_order-order-requires
scanned_order-order-requires c =
    let m = c.args.block.now in
    let ok = c.requires in
    let linked = (sited m ok).linked in
    record {
      linked = (linked, ones_long linked.few, all_closed linked, all_count (get_or m 2 0) linked.few);
      low_le_n = (omega arith, λ q h one. omega arith);
      n_in_bounds = (zeros_long _ room refl linked.few, zeros_long _ room refl linked.few, zeros_long _ room refl linked.few, zeros_clear room refl);
    }

pub count_critical-requires : goal.count_critical-requires
count_critical-requires c =
    let m = c.args.block.now in
    let ok = c.requires in
    let linked = (sited m ok).linked in
    (linked, order_all m (get_or m 2 0) linked.few c.scanned_order-order.ensures.ordered)

pub returns : goal.returns
returns c =
    c.count_critical.ensures ∙ critical_count c.args.block.now c.requires
