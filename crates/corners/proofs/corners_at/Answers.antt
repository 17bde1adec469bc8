-- `corners::corners_at` meets its contract: each call gets what it asks from those before it. Assumes nothing.
use Rattle.std.proofs.Common.{ℕ, length, get_or, sym, refl, ap, ◌∙◌, arith}
use lib.ListN.{length-replicate}
use Rattle.model.specs.Values.{room}
use Rattle.cells.proofs.Sited.{sited}
use Rattle.cells.proofs.Reached.{volume_linked}
use Rattle.cells.proofs.Resets.{zeros_clear, zeros_long, listed_marked, listed_some}
use Rattle.cells.proofs.SewnLaws.{marked_places}
use Rattle.cells.proofs.FaceSerials.{closed_next}
use Rattle.cells.proofs.VolumeReady.{out_few, out_long, out_below}
use Rattle.corners.proofs.CornerLaws.{cornered}
use Rattle.corners.proofs.corners_at.Goals as goal

pub bounds-block-2 : goal.bounds-block-2
bounds-block-2 c =
    omega (arith, (sited c.args.block.now c.requires.0).linked.size)

pub volume-size-requires : goal.volume-size-requires
volume-size-requires c =
    let linked = (sited c.args.block.now c.requires.0).linked in
    (linked, c.requires.1, zeros_long _ room refl linked.few, zeros_long _ room refl linked.few, zeros_clear room refl)

pub message_order-order-requires : goal.message_order-order-requires
message_order-order-requires c =
    let m = c.args.block.now in
    let linked = (sited m c.requires.0).linked in
    let low = c.requires.1 in
    let mk = c.volume-size.ensures.marked in
    let listed = c.volume-size.ensures.listed in
    record {
      linked = (
        linked,
        omega (arith, linked.few, length-replicate {A = ℕ} room 0),
        closed_next linked low mk,
        c.volume-size.ensures.count ∙ sym (ap length (marked_places mk (get_or m 2 0))),
      );
      size_nonzero = (
        listed_some _ listed (volume_linked linked low).here,
        listed_marked mk listed,
        zeros_long _ room refl linked.few,
        zeros_long _ room refl linked.few,
        zeros_clear room refl,
      );
    }

pub number_vertices-requires : goal.number_vertices-requires
number_vertices-requires c =
    let linked = (sited c.args.block.now c.requires.0).linked in
    let low = c.requires.1 in
    let mk = c.volume-size.ensures.marked in
    let o = c.message_order-order.ensures.ordered in
    let few = out_few linked low mk o in
    record {
      linked = (linked, omega (arith, few, linked.few), out_long linked low mk o, out_below linked low mk o);
      n_in_bounds = (zeros_long _ room refl linked.few, omega (arith, few, c.requires.2));
    }

pub returns : goal.returns
returns c =
    cornered c.args.block.now c.requires.0 c.args.p.0 c.requires.1 c.volume-size.ensures.marked c.message_order-order.ensures.ordered
    c.number_vertices.ensures
