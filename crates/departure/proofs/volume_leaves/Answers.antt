-- `departure::volume_leaves` meets its contract: each call gets what it asks from those before it, and each answer is that of the first of
-- 11 to 14 that is answered no; a volume that is refused is marked nowhere. Assumes nothing.
use mathlib.Core.Path.{sym, ◌∙◌, ap}
use lib.ListN.{length}
use Rattle.model.specs.Image.{count_in}
use Rattle.answers.proofs.Questions.{said_no, said_yes}
use Rattle.cells.proofs.Sited.{sited}
use Rattle.cells.proofs.Reached.{volume_linked}
use Rattle.cells.proofs.Resets.{listed_marked, listed_some}
use Rattle.cells.proofs.SewnLaws.{marked_places}
use Rattle.cells.proofs.FaceSerials.{closed_next}
use Rattle.cells.proofs.VolumeReady.{out_few, out_whole}
use Rattle.departure.specs.Asked.{VolumeLeaves}
use Rattle.departure.proofs.Answers.{as_many, list_ready, unmark_both_ready}
use Rattle.departure.proofs.FirstNo.{ranges_in, first_11, first_12, first_13, first_14, departs}
use Rattle.departure.proofs.Told.{walked_told, large_told, paired_told, unpaired_told, counter_told, full_told}
use native.Mathlib.Omega.{arith}
use Rattle.departure.proofs.volume_leaves.Goals as goal

pub volume_within-requires : goal.volume_within-requires
volume_within-requires c =
    let m = c.args.block.now in
    let site = sited m c.requires.block_value.0 in
    let below = c.requires.block_value.2 in
    let clear = c.requires.block_in_bounds in
    record { linked = (site.linked, below); block_in_bounds = (c.requires.block_in_bounds_2.0, clear.0, clear.1) }

pub returns-in_default : goal.returns-in_default
unfolding VolumeLeaves
returns-in_default c =
    let m = c.args.block.now in
    let site = sited m c.requires.block_value.0 in
    let most = c.args.limits.volume in
    let below = c.requires.block_value.2 in
    let large = large_told most m _ _ _ c.volume_within.ensures c.in_default.is in
    record { answer = first_11 most m site below large.0; clear = (large.1, c.requires.block_in_bounds.3) }

pub bounds-block-2 : goal.bounds-block-2
bounds-block-2 c =
    omega (arith, (sited c.args.block.now c.requires.block_value.0).linked.size)

pub message_order-order-requires : goal.message_order-order-requires
message_order-order-requires c =
    let m = c.args.block.now in
    let site = sited m c.requires.block_value.0 in
    let below = c.requires.block_value.2 in
    let walked = walked_told c.args.limits.volume m _ _ _ c.volume_within.ensures c.in-Some.is in
    let mk = walked.0.volume_marked in
    let l = site.linked in
    let listed = walked.0.listed in
    let clear = c.requires.block_in_bounds in
    record {
      linked = (
        l,
        omega (arith, clear.0, c.volume_within.auto),
        closed_next l (below) mk,
        walked.0.size_is ∙ sym (ap length (marked_places mk (count_in m))),
      );
      size_nonzero = (listed_some _ listed (volume_linked l (below)).here, listed_marked mk listed, c.requires.block_in_bounds_2.1, clear.2, clear.3);
    }

pub none_sewn_within-requires : goal.none_sewn_within-requires
none_sewn_within-requires c =
    let m = c.args.block.now in
    let site = sited m c.requires.block_value.0 in
    let below = c.requires.block_value.2 in
    let walked = walked_told c.args.limits.volume m _ _ _ c.volume_within.ensures c.in-Some.is in
    let mk = walked.0.volume_marked in
    record {
      linked = (site.linked, omega (arith, c.requires.block_in_bounds.0, c.volume_within.auto));
      darts_le_room = list_ready site below mk c.message_order-order.ensures.ordered;
    }

pub unmark_both-requires : goal.unmark_both-requires
unmark_both-requires c =
    let m = c.args.block.now in
    let site = sited m c.requires.block_value.0 in
    let below = c.requires.block_value.2 in
    let walked = walked_told c.args.limits.volume m _ _ _ c.volume_within.ensures c.in-Some.is in
    let mk = walked.0.volume_marked in
    let clear = c.requires.block_in_bounds in
    unmark_both_ready site below mk c.message_order-order.ensures.ordered c.message_order-order.ensures.seen
    (omega (arith, clear.0, c.volume_within.auto)) (omega (arith, clear.2, c.message_order-order.auto))

pub returns-then-not-none_sewn_within : goal.returns-then-not-none_sewn_within
unfolding VolumeLeaves
returns-then-not-none_sewn_within c =
    let m = c.args.block.now in
    let site = sited m c.requires.block_value.0 in
    let most = c.args.limits.volume in
    let below = c.requires.block_value.2 in
    let walked = walked_told most m _ _ _ c.volume_within.ensures c.in-Some.is in
    record {
      answer = first_12 most m site below walked.0 walked.1 c.message_order-order.ensures.ordered
          (said_no c.none_sewn_within.ensures c.if-not-none_sewn_within.true);
      clear = c.unmark_both.ensures;
    }

pub pairs_once-requires : goal.pairs_once-requires
pairs_once-requires c =
    let m = c.args.block.now in
    let site = sited m c.requires.block_value.0 in
    let below = c.requires.block_value.2 in
    let walked = walked_told c.args.limits.volume m _ _ _ c.volume_within.ensures c.in-Some.is in
    let mk = walked.0.volume_marked in
    let o = c.message_order-order.ensures.ordered in
    let ready = list_ready site below mk o in
    record {
      linked = (site.linked, out_whole site.linked (below) mk o, ready.1);
      block_in_bounds = (
        c.requires.block_in_bounds_2.2,
        omega (arith, out_few site.linked (below) mk o, c.requires.block_in_bounds_3.0),
        omega (arith, as_many site below mk o walked.0, walked.1, c.requires.block_in_bounds_3.1),
      );
    }

pub unmark_both-requires-in_default-pairs_once : goal.unmark_both-requires-in_default-pairs_once
unmark_both-requires-in_default-pairs_once c =
    let m = c.args.block.now in
    let site = sited m c.requires.block_value.0 in
    let below = c.requires.block_value.2 in
    let walked = walked_told c.args.limits.volume m _ _ _ c.volume_within.ensures c.in-Some.is in
    let mk = walked.0.volume_marked in
    let clear = c.requires.block_in_bounds in
    unmark_both_ready site below mk c.message_order-order.ensures.ordered c.message_order-order.ensures.seen
    (omega (arith, clear.0, c.volume_within.auto)) (omega (arith, clear.2, c.message_order-order.auto))

pub shape_of-marks-in_default-pairs_once : goal.shape_of-marks-in_default-pairs_once
shape_of-marks-in_default-pairs_once c =
    omega (arith, c.unmark_both-in_default-pairs_once.auto, c.volume_within.auto)

pub shape_of-out-in_default-pairs_once : goal.shape_of-out-in_default-pairs_once
shape_of-out-in_default-pairs_once c =
    omega (arith, c.message_order-order.auto, c.volume_within.auto)

pub returns-in_default-pairs_once : goal.returns-in_default-pairs_once
unfolding VolumeLeaves
returns-in_default-pairs_once c =
    let m = c.args.block.now in
    let site = sited m c.requires.block_value.0 in
    let most = c.args.limits.volume in
    let below = c.requires.block_value.2 in
    let walked = walked_told most m _ _ _ c.volume_within.ensures c.in-Some.is in
    record {
      answer = first_13 most m site below walked.0 walked.1 c.message_order-order.ensures.ordered
          (said_yes c.none_sewn_within.ensures c.if-not-none_sewn_within.false)
          (unpaired_told m _ _ c.pairs_once.ensures c.in_default-pairs_once.is);
      clear = c.unmark_both-in_default-pairs_once.ensures;
    }

pub counter_fits-requires : goal.counter_fits-requires
counter_fits-requires c =
    let m = c.args.block.now in
    let site = sited m c.requires.block_value.0 in
    record {
      linked = (site.linked, omega (arith, c.requires.block_in_bounds.0, c.volume_within.auto), (ranges_in m c.requires.block_value.0).counter_small);
      in_order = c.message_order-order.ensures.ordered;
    }

pub unmark_both-requires-in_default-counter_fits : goal.unmark_both-requires-in_default-counter_fits
unmark_both-requires-in_default-counter_fits c =
    let m = c.args.block.now in
    let site = sited m c.requires.block_value.0 in
    let below = c.requires.block_value.2 in
    let walked = walked_told c.args.limits.volume m _ _ _ c.volume_within.ensures c.in-Some.is in
    let mk = walked.0.volume_marked in
    let clear = c.requires.block_in_bounds in
    unmark_both_ready site below mk c.message_order-order.ensures.ordered c.message_order-order.ensures.seen
    (omega (arith, clear.0, c.volume_within.auto)) (omega (arith, clear.2, c.message_order-order.auto))

pub shape_of-marks-in_default-counter_fits : goal.shape_of-marks-in_default-counter_fits
shape_of-marks-in_default-counter_fits c =
    omega (arith, c.unmark_both-in_default-counter_fits.auto, c.volume_within.auto)

pub shape_of-out-in_default-counter_fits : goal.shape_of-out-in_default-counter_fits
shape_of-out-in_default-counter_fits c =
    omega (arith, c.message_order-order.auto, c.volume_within.auto)

pub shape_of-starts-in_default-counter_fits : goal.shape_of-starts-in_default-counter_fits
shape_of-starts-in_default-counter_fits c =
    omega (arith, c.message_order-order.auto)

pub shape_of-seen-in_default-counter_fits : goal.shape_of-seen-in_default-counter_fits
shape_of-seen-in_default-counter_fits c =
    omega (arith, c.unmark_both-in_default-counter_fits.auto, c.message_order-order.auto)

pub returns-in_default-counter_fits : goal.returns-in_default-counter_fits
unfolding VolumeLeaves
returns-in_default-counter_fits c =
    let m = c.args.block.now in
    let site = sited m c.requires.block_value.0 in
    let most = c.args.limits.volume in
    let below = c.requires.block_value.2 in
    let walked = walked_told most m _ _ _ c.volume_within.ensures c.in-Some.is in
    record {
      answer = first_14 most m site below walked.0 walked.1 c.message_order-order.ensures.ordered
          (said_yes c.none_sewn_within.ensures c.if-not-none_sewn_within.false)
          (paired_told m _ _ c.pairs_once.ensures c.in-Some-pairs_once.is) (full_told m _ c.counter_fits.ensures c.in_default-counter_fits.is);
      clear = c.unmark_both-in_default-counter_fits.ensures;
    }

pub shape_of-marks : goal.shape_of-marks
shape_of-marks c =
    omega (arith, c.volume_within.auto)

pub shape_of-out : goal.shape_of-out
shape_of-out c =
    omega (arith, c.message_order-order.auto, c.volume_within.auto)

pub returns : goal.returns
unfolding VolumeLeaves
returns c =
    let m = c.args.block.now in
    let site = sited m c.requires.block_value.0 in
    let most = c.args.limits.volume in
    let below = c.requires.block_value.2 in
    let walked = walked_told most m _ _ _ c.volume_within.ensures c.in-Some.is in
    let counted = counter_told m _ c.counter_fits.ensures c.in-Some-counter_fits.is in
    record {
      answer = departs most m site below walked.0 walked.1 c.message_order-order.ensures.ordered
          (said_yes c.none_sewn_within.ensures c.if-not-none_sewn_within.false)
          (paired_told m _ _ c.pairs_once.ensures c.in-Some-pairs_once.is) counted.0 counted.1 c.requires.block_value.1
          (omega (arith, c.requires.block_in_bounds.0, c.volume_within.auto));
      clear = tt;
    }
