-- `fitting::parts_right` meets its contract.
-- Assumes nothing.
use Rattle.fitting.proofs.Outlined.{told_of, arrives}
use Rattle.fitting.proofs.Fitted.{critical_no, ready, few_second, parted}
use native.Mathlib.Omega.{arith}
use Rattle.fitting.proofs.parts_right.Goals as goal

pub critical_right-requires : goal.critical_right-requires
critical_right-requires c =
    let of-arrays = c.requires.darts_in_bounds in
    let ready_made = c.requires.by_index_2 in
    let new = c.requires.by_index.2 in
    record {
      block_value = (
        c.requires.block_value.0,
        c.requires.block_value.1,
        c.requires.block_value.2,
        of-arrays.0,
        of-arrays.1,
        c.requires.block_value.4,
        c.requires.block_value.5,
        (told_of new.outlined).some_darts,
        (told_of new.outlined).few,
        c.requires.block_value.6,
        c.requires.block_value.7,
        c.requires.block_value.8,
      );
      by_index = (
        new.brought,
        c.requires.by_index.0,
        c.requires.by_index.1,
        arrives new.outlined (new.right _ new.outlined),
      );
      k_in_bounds = (of-arrays.2, of-arrays.3, of-arrays.4, of-arrays.5, of-arrays.6, of-arrays.9, ready_made.1);
    }

pub shape_of-kinds-then-not-critical_right : goal.shape_of-kinds-then-not-critical_right
shape_of-kinds-then-not-critical_right c =
    omega (arith, c.critical_right.auto)

pub shape_of-links-then-not-critical_right : goal.shape_of-links-then-not-critical_right
shape_of-links-then-not-critical_right c =
    omega (arith, c.critical_right.auto)

pub shape_of-codes-then-not-critical_right : goal.shape_of-codes-then-not-critical_right
shape_of-codes-then-not-critical_right c =
    omega (arith, c.critical_right.auto)

pub shape_of-indices-then-not-critical_right : goal.shape_of-indices-then-not-critical_right
shape_of-indices-then-not-critical_right c =
    omega (arith, c.critical_right.auto)

pub shape_of-numbers-then-not-critical_right : goal.shape_of-numbers-then-not-critical_right
shape_of-numbers-then-not-critical_right c =
    omega (arith, c.critical_right.auto)

pub shape_of-third-then-not-critical_right : goal.shape_of-third-then-not-critical_right
shape_of-third-then-not-critical_right c =
    omega (arith, c.critical_right.auto)

pub shape_of-fourth-then-not-critical_right : goal.shape_of-fourth-then-not-critical_right
shape_of-fourth-then-not-critical_right c =
    omega (arith, c.critical_right.auto)

pub shape_of-others-then-not-critical_right : goal.shape_of-others-then-not-critical_right
shape_of-others-then-not-critical_right c =
    omega (arith, c.critical_right.auto)

pub shape_of-rows-then-not-critical_right : goal.shape_of-rows-then-not-critical_right
shape_of-rows-then-not-critical_right c =
    omega (arith, c.critical_right.auto)

pub shape_of-marks-then-not-critical_right : goal.shape_of-marks-then-not-critical_right
shape_of-marks-then-not-critical_right c =
    omega (arith, c.critical_right.auto)

pub returns-then-not-critical_right : goal.returns-then-not-critical_right
returns-then-not-critical_right c =
    λ v x n. critical_no c.requires.block_value.0 n c.critical_right.ensures c.if-not-critical_right.true

pub part2_fits-requires : goal.part2_fits-requires
part2_fits-requires c =
    let of-arrays = c.requires.darts_in_bounds in
    let ready_made = c.requires.by_index_2 in
    let new = c.requires.by_index.2 in
    let few = few_second c.requires.block_value.0 new c.critical_right.ensures c.if-not-critical_right.false
    (omega (arith, c.critical_right.auto, of-arrays.0)) (omega (arith, c.critical_right.auto, of-arrays.1)) c.requires.block_value.2
    c.requires.block_value.3
    c.requires.block_value.6 in
    record {
      part2ready = (
        ready c.requires.block_value.0 new c.critical_right.ensures c.if-not-critical_right.false (omega (arith, c.critical_right.auto, of-arrays.0))
            (omega (arith, c.critical_right.auto, of-arrays.1)) c.requires.block_value.2 c.requires.block_value.3 c.requires.block_value.6,
        few,
        omega (arith, c.critical_right.auto, c.requires.block_value.7),
        omega (arith, c.critical_right.auto, c.requires.block_value.8),
      );
      k_in_bounds = (
        omega (arith, c.critical_right.auto, of-arrays.2),
        omega (arith, c.critical_right.auto, of-arrays.3),
        omega (arith, c.critical_right.auto, of-arrays.6),
        of-arrays.7,
        of-arrays.8,
        of-arrays.10,
      );
      by_index = (λ e h. ready_made.0 e (omega (arith, h, few)), ready_made.2);
    }

pub shape_of-kinds : goal.shape_of-kinds
shape_of-kinds c =
    omega (arith, c.part2_fits.auto, c.critical_right.auto)

pub shape_of-links : goal.shape_of-links
shape_of-links c =
    omega (arith, c.part2_fits.auto, c.critical_right.auto)

pub shape_of-codes : goal.shape_of-codes
shape_of-codes c =
    omega (arith, c.critical_right.auto)

pub shape_of-indices : goal.shape_of-indices
shape_of-indices c =
    omega (arith, c.critical_right.auto)

pub shape_of-numbers : goal.shape_of-numbers
shape_of-numbers c =
    omega (arith, c.part2_fits.auto, c.critical_right.auto)

pub shape_of-third : goal.shape_of-third
shape_of-third c =
    omega (arith, c.part2_fits.auto, c.critical_right.auto)

pub shape_of-fourth : goal.shape_of-fourth
shape_of-fourth c =
    omega (arith, c.critical_right.auto)

pub shape_of-others : goal.shape_of-others
shape_of-others c =
    omega (arith, c.critical_right.auto)

pub shape_of-rows : goal.shape_of-rows
shape_of-rows c =
    omega (arith, c.part2_fits.auto, c.critical_right.auto)

pub shape_of-places : goal.shape_of-places
shape_of-places c =
    omega (arith, c.part2_fits.auto)

pub shape_of-trail : goal.shape_of-trail
shape_of-trail c =
    omega (arith, c.part2_fits.auto)

pub shape_of-marks : goal.shape_of-marks
shape_of-marks c =
    omega (arith, c.critical_right.auto)

pub shape_of-seen : goal.shape_of-seen
shape_of-seen c =
    omega (arith, c.part2_fits.auto)

pub returns : goal.returns
returns c =
    let of-arrays = c.requires.darts_in_bounds in
    λ v x n. parted c.requires.block_value.0 n c.critical_right.ensures c.if-not-critical_right.false
    (omega (arith, c.critical_right.auto, of-arrays.0)) (omega (arith, c.critical_right.auto, of-arrays.1)) c.requires.block_value.2
    c.requires.block_value.3
    c.requires.block_value.6 c.part2_fits.ensures
