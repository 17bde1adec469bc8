-- `receive::asks::questions` meets its contract.
-- Assumes nothing.
use mathlib.Core.Path.{refl}
use mir.Facts.{Fits-lt-pow}
use Rattle.theory.proofs.LayoutLaws.{byte_list}
use Rattle.memory.specs.Header.{limits_of}
use Rattle.cells.proofs.Sited.{sited}
use Rattle.columns.proofs.Question.{image_passed}
use Rattle.fitting.proofs.Outlined.{told_of}
use Rattle.arrival.proofs.Eighteen.{finite_told}
use Rattle.receive.proofs.Answered.{serials_small, sender_small, new_volume, no_17, no_29, no_18, no_19, last_asked}
use native.Mathlib.Omega.{arith}
use Rattle.receive.proofs.asks.questions.Goals as goal

pub for_here-requires : goal.for_here-requires
for_here-requires c =
    omega (arith, (sited c.args.block.now c.requires.block_value.0).linked.size)

pub returns-then-not-for_here : goal.returns-then-not-for_here
returns-then-not-for_here c =
    no_17 (limits_of c.args.limits) c.args.block.now c.for_here.ensures c.if-not-for_here.true

pub returns-then-limits-front : goal.returns-then-limits-front
returns-then-limits-front c =
    no_29 (limits_of c.args.limits) c.args.block.now c.for_here.ensures c.if-not-for_here.false c.if-limits-front.true

pub bounds-block-2 : goal.bounds-block-2
bounds-block-2 c =
    omega (arith, (sited c.args.block.now c.requires.block_value.0).linked.size)

pub new_serials-requires : goal.new_serials-requires
new_serials-requires c =
    let block = c.args.block.now in
    let message = c.args.message.now in
    let site = sited block c.requires.block_value.0 in
    let lent = c.requires.lent_arrays in
    let told = told_of c.requires.block_value.3.2 in
    record {
      n_value = (refl, site.linked.few, site.linked.size, site.ascends, λ p h. (image_passed block c.requires.block_value.0).range.serial_small p h);
      k_in_bounds = (
        omega (arith, told.few, c.requires.block_value.2.serial_size),
        omega (arith, c.if-limits-front.false, lent.keys_long),
        omega (arith, c.if-limits-front.false, lent.ranks_long),
        omega (arith, c.if-limits-front.false, lent.codes_long),
        told.some_darts,
        told.few,
        told.points_fit,
        serials_small (byte_list message (λ i. Fits-lt-pow (c.type_inv.message i))) c.requires.block_value.3.1 c.requires.block_value.3.2,
      );
    }

pub returns-then-not-new_serials : goal.returns-then-not-new_serials
returns-then-not-new_serials c =
    let block = c.args.block.now in
    no_18 (limits_of c.args.limits) block c.for_here.ensures c.if-not-for_here.false (omega (arith, c.if-limits-front.false))
    (omega (arith, c.requires.block_value.2.serial_size, (told_of c.requires.block_value.3.2).few))
    c.new_serials.ensures c.if-not-new_serials.true

pub volume_right-requires : goal.volume_right-requires
volume_right-requires c =
    let told = told_of c.requires.block_value.3.2 in
    let sides = c.requires.block_value.2 in
    let lent = c.requires.lent_arrays in
    record {
      k_in_bounds = (
        omega (arith, told.few, sides.vertex_size),
        omega (arith, told.few, sides.serial_size),
        omega (arith, told.few, sides.starts_size),
        omega (arith, told.few, sides.sizes_size),
        omega (arith, c.if-limits-front.false, c.new_serials.auto, lent.keys_long),
        omega (arith, c.if-limits-front.false, c.new_serials.auto, lent.ranks_long),
        omega (arith, c.if-limits-front.false, lent.opposite_long),
        omega (arith, c.if-limits-front.false, lent.draft_long),
      );
      k_in_bounds_2 = (
        omega (arith, c.if-limits-front.false, lent.old_long),
        omega (arith, c.if-limits-front.false, lent.new_long),
        omega (arith, c.if-limits-front.false, c.new_serials.auto, lent.codes_long),
        omega (arith, c.if-limits-front.false, lent.indices_long),
        omega (arith, c.if-limits-front.false, lent.numbers_long),
        omega (arith, c.if-limits-front.false, lent.marks_long),
        lent.marks_clear,
      );
      ranked = (
        c.new_serials.ensures.ranked c.if-not-new_serials.false,
        finite_told c.new_serials.ensures c.if-not-new_serials.false,
        (c.requires.block_value.3.0, told),
      );
    }

pub shape_of-keys-then-not-volume_right : goal.shape_of-keys-then-not-volume_right
shape_of-keys-then-not-volume_right c =
    omega (arith, c.new_serials.auto)

pub shape_of-codes-then-not-volume_right : goal.shape_of-codes-then-not-volume_right
shape_of-codes-then-not-volume_right c =
    omega (arith, c.volume_right.auto, c.new_serials.auto)

pub returns-then-not-volume_right : goal.returns-then-not-volume_right
returns-then-not-volume_right c =
    let block = c.args.block.now in
    no_19 (limits_of c.args.limits) block c.for_here.ensures c.if-not-for_here.false (omega (arith, c.if-limits-front.false))
    (omega (arith, c.requires.block_value.2.serial_size, (told_of c.requires.block_value.3.2).few))
    c.new_serials.ensures c.if-not-new_serials.false c.volume_right.ensures.answer c.if-not-volume_right.true

pub parts_right-right-requires : goal.parts_right-right-requires
parts_right-right-requires c =
    let message = c.args.message.now in
    let told = told_of c.requires.block_value.3.2 in
    let sides = c.requires.block_value.2 in
    let lent = c.requires.lent_arrays in
    record {
      block_value = (
        c.requires.block_value.0,
        omega (arith, told.few, sides.starts_size),
        omega (arith, told.few, sides.sizes_size),
        omega (arith, c.if-limits-front.false, c.new_serials.auto, lent.ranks_long),
        lent.kinds_clear,
        lent.links_clear,
        sender_small (byte_list message (λ i. Fits-lt-pow (c.type_inv.message i))) c.requires.block_value.3.1 c.requires.block_value.3.2,
        omega (arith, c.if-limits-front.false, lent.kinds_long),
        omega (arith, c.if-limits-front.false, lent.links_long),
      );
      by_index = (
        c.args.vertex.now,
        c.args.serial.now,
        (new_volume c.new_serials.ensures c.if-not-new_serials.false c.volume_right.ensures.answer c.if-not-volume_right.false (c.volume_right.ensures.drafted c.if-not-volume_right.false) c.requires.block_value.3.2),
      );
      darts_in_bounds = (
        omega (arith, c.if-limits-front.false, c.new_serials.auto, c.volume_right.auto, lent.codes_long),
        omega (arith, c.if-limits-front.false, c.volume_right.auto, lent.indices_long),
        omega (arith, c.if-limits-front.false, c.volume_right.auto, lent.numbers_long),
        omega (arith, c.if-limits-front.false, lent.third_long),
        omega (arith, told.few, sides.vertex_size),
        omega (arith, told.few, sides.serial_size),
        omega (arith, c.if-limits-front.false, c.volume_right.auto, lent.old_long),
        omega (arith, c.if-limits-front.false, lent.places_long),
        omega (arith, c.if-limits-front.false, c.volume_right.auto, lent.new_long),
        omega (arith, c.if-limits-front.false, c.volume_right.auto, lent.marks_long),
        omega (arith, c.requires.block_value.1, lent.seen_all),
      );
      by_index_2 = (λ e h. lent.places_none e (omega (arith, h, c.if-limits-front.false)), c.volume_right.ensures.unmarked, lent.seen_clear);
    }

pub overflow_add-n : goal.overflow_add-n
overflow_add-n c =
    omega (arith, (sited c.args.block.now c.requires.block_value.0).linked.few, (told_of c.requires.block_value.3.2).few)

pub shape_of-vertex : goal.shape_of-vertex
shape_of-vertex c =
    omega (arith, c.parts_right-right.auto)

pub shape_of-serial : goal.shape_of-serial
shape_of-serial c =
    omega (arith, c.parts_right-right.auto)

pub shape_of-keys : goal.shape_of-keys
shape_of-keys c =
    omega (arith, c.new_serials.auto)

pub shape_of-ranks : goal.shape_of-ranks
shape_of-ranks c =
    omega (arith, c.new_serials.auto)

pub shape_of-opposite : goal.shape_of-opposite
shape_of-opposite c =
    omega (arith, c.volume_right.auto)

pub shape_of-draft : goal.shape_of-draft
shape_of-draft c =
    omega (arith, c.volume_right.auto)

pub shape_of-kinds : goal.shape_of-kinds
shape_of-kinds c =
    omega (arith, c.parts_right-right.auto)

pub shape_of-links : goal.shape_of-links
shape_of-links c =
    omega (arith, c.parts_right-right.auto)

pub shape_of-old : goal.shape_of-old
shape_of-old c =
    omega (arith, c.parts_right-right.auto, c.volume_right.auto)

pub shape_of-new : goal.shape_of-new
shape_of-new c =
    omega (arith, c.parts_right-right.auto, c.volume_right.auto)

pub shape_of-codes : goal.shape_of-codes
shape_of-codes c =
    omega (arith, c.parts_right-right.auto, c.volume_right.auto, c.new_serials.auto)

pub shape_of-indices : goal.shape_of-indices
shape_of-indices c =
    omega (arith, c.parts_right-right.auto, c.volume_right.auto)

pub shape_of-numbers : goal.shape_of-numbers
shape_of-numbers c =
    omega (arith, c.parts_right-right.auto, c.volume_right.auto)

pub shape_of-third : goal.shape_of-third
shape_of-third c =
    omega (arith, c.parts_right-right.auto)

pub shape_of-places : goal.shape_of-places
shape_of-places c =
    omega (arith, c.parts_right-right.auto)

pub shape_of-marks : goal.shape_of-marks
shape_of-marks c =
    omega (arith, c.parts_right-right.auto, c.volume_right.auto)

pub returns : goal.returns
returns c =
    let block = c.args.block.now in
    last_asked (limits_of c.args.limits) block c.for_here.ensures c.if-not-for_here.false (omega (arith, c.if-limits-front.false))
    (omega (arith, c.requires.block_value.2.serial_size, (told_of c.requires.block_value.3.2).few))
    c.new_serials.ensures c.if-not-new_serials.false c.volume_right.ensures.answer c.if-not-volume_right.false
    (c.parts_right-right.ensures c.args.vertex.now c.args.serial.now
    (new_volume c.new_serials.ensures c.if-not-new_serials.false c.volume_right.ensures.answer c.if-not-volume_right.false (c.volume_right.ensures.drafted c.if-not-volume_right.false) c.requires.block_value.3.2))
    (c.volume_right.ensures.drafted c.if-not-volume_right.false) c.last_two.ensures
