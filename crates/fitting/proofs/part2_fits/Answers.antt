-- `fitting::part2_fits` meets its contract.
-- Assumes nothing.
use Rattle.fitting.proofs.LabelLaws.{few_entries, beside, sewable_at, same_no, part2_done}
use native.Mathlib.Omega.{arith}
use Rattle.fitting.proofs.part2_fits.Goals as goal

pub rank_codes-requires : goal.rank_codes-requires
rank_codes-requires c =
    let of-arrays = c.requires.k_in_bounds in (
      c.requires.part2ready.0.codes_size,
      few_entries c.requires.part2ready.0,
      c.requires.part2ready.0.codes_small,
      omega (arith, c.requires.part2ready.1, of-arrays.0),
      omega (arith, c.requires.part2ready.1, of-arrays.1),
      omega (arith, c.requires.part2ready.1, of-arrays.2),
    )

pub shape_of-keys-then-not-rank_codes : goal.shape_of-keys-then-not-rank_codes
shape_of-keys-then-not-rank_codes c =
    omega (arith, c.rank_codes.auto)

pub shape_of-scratch-then-not-rank_codes : goal.shape_of-scratch-then-not-rank_codes
shape_of-scratch-then-not-rank_codes c =
    omega (arith, c.rank_codes.auto)

pub shape_of-rows-then-not-rank_codes : goal.shape_of-rows-then-not-rank_codes
shape_of-rows-then-not-rank_codes c =
    omega (arith, c.rank_codes.auto)

pub returns-then-not-rank_codes : goal.returns-then-not-rank_codes
returns-then-not-rank_codes c =
    same_no c.rank_codes.ensures c.if-not-rank_codes.true

pub bounds-block-2 : goal.bounds-block-2
bounds-block-2 c =
    let l = (beside c.requires.part2ready.0).linked.size in
    omega (arith, l)

pub locate-requires : goal.locate-requires
locate-requires c =
    let of-arrays = c.requires.k_in_bounds in (
      (beside c.requires.part2ready.0).linked.size,
      (beside c.requires.part2ready.0).linked.few,
      omega (arith, c.requires.part2ready.1, c.rank_codes.auto, of-arrays.0),
      few_entries c.requires.part2ready.0,
      omega (arith, c.requires.part2ready.1, of-arrays.3),
      c.requires.by_index.0,
      c.rank_codes.ensures.ranked c.if-not-rank_codes.false,
    )

pub part2_right-requires : goal.part2_right-requires
part2_right-requires c =
    let of-arrays = c.requires.k_in_bounds in
    record {
      sewable = sewable_at c.requires.part2ready.0 c.locate.ensures (omega (arith, c.requires.part2ready.1, c.locate.auto, of-arrays.3));
      k_in_bounds = (of-arrays.4, of-arrays.5, c.requires.by_index.1, c.requires.part2ready.2, c.requires.part2ready.3);
    }

pub shape_of-kinds : goal.shape_of-kinds
shape_of-kinds c =
    omega (arith, c.part2_right.auto)

pub shape_of-links : goal.shape_of-links
shape_of-links c =
    omega (arith, c.part2_right.auto)

pub shape_of-keys : goal.shape_of-keys
shape_of-keys c =
    omega (arith, c.rank_codes.auto)

pub shape_of-scratch : goal.shape_of-scratch
shape_of-scratch c =
    omega (arith, c.rank_codes.auto)

pub shape_of-rows : goal.shape_of-rows
shape_of-rows c =
    omega (arith, c.rank_codes.auto)

pub shape_of-places : goal.shape_of-places
shape_of-places c =
    omega (arith, c.locate.auto)

pub shape_of-trail : goal.shape_of-trail
shape_of-trail c =
    omega (arith, c.part2_right.auto)

pub shape_of-seen : goal.shape_of-seen
shape_of-seen c =
    omega (arith, c.part2_right.auto)

pub returns : goal.returns
returns c =
    part2_done c.rank_codes.ensures c.if-not-rank_codes.false c.locate.ensures c.part2_right.ensures
