-- `stats::rows::tell_faces` meets its contract: message order of all places has every face, and each counts by its start. Assumes nothing.
use mathlib.Core.Path.{refl}
use lib.ListN.{get_or}
use Rattle.model.specs.Values.{room}
use Rattle.cells.proofs.Sited.{sited}
use Rattle.cells.proofs.Resets.{zeros_clear, zeros_long}
use Rattle.stats.proofs.CriticalFaces.{ones_long, all_closed, all_count, order_all}
use Rattle.stats.proofs.RowLaws.{countable_after, countable_more, faces_counted, started, starts_few, bordering}
use native.Mathlib.Omega.{arith}
use Rattle.stats.proofs.rows.tell_faces.Goals as goal

pub bounds-block-2 : goal.bounds-block-2
bounds-block-2 c =
    omega (arith, (sited c.args.block.now c.requires.0).linked.size)

pub scanned_order-order-requires : goal.scanned_order-order-requires
scanned_order-order-requires c =
    let m = c.args.block.now in
    let linked = (sited m c.requires.0).linked in
    record {
      linked = (linked, ones_long linked.few, all_closed linked, all_count (get_or m 2 0) linked.few);
      low_le_n = (omega arith, λ q h one. omega arith);
      n_in_bounds = (zeros_long _ room refl linked.few, zeros_long _ room refl linked.few, zeros_long _ room refl linked.few, zeros_clear room refl);
    }

pub count_faces-requires : goal.count_faces-requires
count_faces-requires c =
    let m = c.args.block.now in
    let ok = c.requires.0 in
    let linked = (sited m ok).linked in
    record {
      linked = (linked, countable_more c.requires.1 (omega arith));
      count_started = started m ok (order_all m (get_or m 2 0) linked.few c.scanned_order-order.ensures.ordered);
    }

pub count_critical-requires : goal.count_critical-requires
count_critical-requires c =
    let m = c.args.block.now in
    let ok = c.requires.0 in
    let linked = (sited m ok).linked in
    let after = countable_after c.requires.1 c.count_faces.ensures (starts_few m ok) in
    record {
      linked = (linked, countable_more after (omega arith));
      count_started = (started m ok (order_all m (get_or m 2 0) linked.few c.scanned_order-order.ensures.ordered), bordering m ok);
    }

pub returns : goal.returns
returns c =
    faces_counted _ _ c.count_faces.ensures c.count_critical.ensures
