-- `receive::take` meets its contract.
-- Assumes nothing.
use mathlib.Core.Path.{sym, ◌∙◌}
use Prim.Native.Nat.{◌≤◌}
use mir.Facts.{Fits-lt-pow}
use lib.ListN.{length}
use Rattle.theory.proofs.LayoutLaws.{byte_list}
use Rattle.theory.proofs.ImageLaws.{image_by_size}
use Rattle.memory.specs.Header.{limits_of}
use Rattle.cells.proofs.Sited.{sited}
use Rattle.fitting.proofs.Outlined.{told_of}
use Rattle.receive.proofs.Answered.{asked_no, asked_yes, transfer_refused}
use Rattle.receive.proofs.Served.{may_join, new_count, served_image}
use native.Mathlib.Omega.{arith}
use Rattle.receive.proofs.take.Goals as goal

pub questions-requires : goal.questions-requires
questions-requires c =
    let here = c.requires.block_le_room in
    record {
      block_value = (here.2, omega (arith, (sited c.args.block.now here.2).linked.size, here.1), here.3, here.4);
      lent_arrays = c.requires.lent_arrays;
    }

pub join-requires : goal.join-requires
join-requires c =
    let lim = limits_of c.args.limits in
    let here = c.requires.block_le_room in
    let lent = c.requires.lent_arrays in
    let y = asked_yes c.questions.ensures c.in-Ok.is in
    let long : c.args.front.darts ≤ length c.args.serial.now = omega (arith, here.3.serial_size, (told_of here.4.2).few) in
    let joins = may_join lim here.0 here.1 here.2 long y here.4.0 here.4.1 here.4.2 in
    let count = new_count lim here.0 here.1 here.2 long y here.4.0 here.4.1 here.4.2 in
    record {
      block_in_bounds = (omega (arith, y.2, c.questions.auto, lent.old_all), omega (arith, count, y.3, c.questions.auto, lent.new_long));
      draft_in_bounds = (
        omega (arith, count, y.3, c.questions.auto, lent.kinds_long),
        omega (arith, count, y.3, c.questions.auto, lent.links_long),
        omega (arith, count, y.3, c.questions.auto, lent.ranks_long),
        joins,
      );
    }

pub shape_of-vertex-in-Err : goal.shape_of-vertex-in-Err
shape_of-vertex-in-Err c =
    omega (arith, c.questions.auto)

pub shape_of-serial-in-Err : goal.shape_of-serial-in-Err
shape_of-serial-in-Err c =
    omega (arith, c.questions.auto)

pub shape_of-keys-in-Err : goal.shape_of-keys-in-Err
shape_of-keys-in-Err c =
    omega (arith, c.questions.auto)

pub shape_of-ranks-in-Err : goal.shape_of-ranks-in-Err
shape_of-ranks-in-Err c =
    omega (arith, c.questions.auto)

pub shape_of-opposite-in-Err : goal.shape_of-opposite-in-Err
shape_of-opposite-in-Err c =
    omega (arith, c.questions.auto)

pub shape_of-draft-in-Err : goal.shape_of-draft-in-Err
shape_of-draft-in-Err c =
    omega (arith, c.questions.auto)

pub shape_of-kinds-in-Err : goal.shape_of-kinds-in-Err
shape_of-kinds-in-Err c =
    omega (arith, c.questions.auto)

pub shape_of-links-in-Err : goal.shape_of-links-in-Err
shape_of-links-in-Err c =
    omega (arith, c.questions.auto)

pub shape_of-old-in-Err : goal.shape_of-old-in-Err
shape_of-old-in-Err c =
    omega (arith, c.questions.auto)

pub shape_of-new-in-Err : goal.shape_of-new-in-Err
shape_of-new-in-Err c =
    omega (arith, c.questions.auto)

pub shape_of-codes-in-Err : goal.shape_of-codes-in-Err
shape_of-codes-in-Err c =
    omega (arith, c.questions.auto)

pub shape_of-indices-in-Err : goal.shape_of-indices-in-Err
shape_of-indices-in-Err c =
    omega (arith, c.questions.auto)

pub shape_of-numbers-in-Err : goal.shape_of-numbers-in-Err
shape_of-numbers-in-Err c =
    omega (arith, c.questions.auto)

pub shape_of-third-in-Err : goal.shape_of-third-in-Err
shape_of-third-in-Err c =
    omega (arith, c.questions.auto)

pub shape_of-places-in-Err : goal.shape_of-places-in-Err
shape_of-places-in-Err c =
    omega (arith, c.questions.auto)

pub shape_of-marks-in-Err : goal.shape_of-marks-in-Err
shape_of-marks-in-Err c =
    omega (arith, c.questions.auto)

pub shape_of-seen-in-Err : goal.shape_of-seen-in-Err
shape_of-seen-in-Err c =
    omega (arith, c.questions.auto)

pub returns-in-Err : goal.returns-in-Err
returns-in-Err c =
    let lim = limits_of c.args.limits in
    let block = c.args.block.now in
    let here = c.requires.block_le_room in
    let is = sym (image_by_size lim block here.0 here.1) ∙ here.2 in
    record { gives = λ t e w. transfer_refused lim block here.1 is t (asked_no c.questions.ensures c.in-Err.is t e w) }

pub shape_of-block-in-Ok : goal.shape_of-block-in-Ok
shape_of-block-in-Ok c =
    omega (arith, c.join.auto)

pub shape_of-vertex-in-Ok : goal.shape_of-vertex-in-Ok
shape_of-vertex-in-Ok c =
    omega (arith, c.questions.auto)

pub shape_of-serial-in-Ok : goal.shape_of-serial-in-Ok
shape_of-serial-in-Ok c =
    omega (arith, c.questions.auto)

pub shape_of-keys-in-Ok : goal.shape_of-keys-in-Ok
shape_of-keys-in-Ok c =
    omega (arith, c.questions.auto)

pub shape_of-ranks-in-Ok : goal.shape_of-ranks-in-Ok
shape_of-ranks-in-Ok c =
    omega (arith, c.questions.auto)

pub shape_of-opposite-in-Ok : goal.shape_of-opposite-in-Ok
shape_of-opposite-in-Ok c =
    omega (arith, c.questions.auto)

pub shape_of-draft-in-Ok : goal.shape_of-draft-in-Ok
shape_of-draft-in-Ok c =
    omega (arith, c.questions.auto)

pub shape_of-kinds-in-Ok : goal.shape_of-kinds-in-Ok
shape_of-kinds-in-Ok c =
    omega (arith, c.questions.auto)

pub shape_of-links-in-Ok : goal.shape_of-links-in-Ok
shape_of-links-in-Ok c =
    omega (arith, c.questions.auto)

pub shape_of-old-in-Ok : goal.shape_of-old-in-Ok
shape_of-old-in-Ok c =
    omega (arith, c.join.auto, c.questions.auto)

pub shape_of-new-in-Ok : goal.shape_of-new-in-Ok
shape_of-new-in-Ok c =
    omega (arith, c.join.auto, c.questions.auto)

pub shape_of-codes-in-Ok : goal.shape_of-codes-in-Ok
shape_of-codes-in-Ok c =
    omega (arith, c.questions.auto)

pub shape_of-indices-in-Ok : goal.shape_of-indices-in-Ok
shape_of-indices-in-Ok c =
    omega (arith, c.questions.auto)

pub shape_of-numbers-in-Ok : goal.shape_of-numbers-in-Ok
shape_of-numbers-in-Ok c =
    omega (arith, c.questions.auto)

pub shape_of-third-in-Ok : goal.shape_of-third-in-Ok
shape_of-third-in-Ok c =
    omega (arith, c.questions.auto)

pub shape_of-places-in-Ok : goal.shape_of-places-in-Ok
shape_of-places-in-Ok c =
    omega (arith, c.questions.auto)

pub shape_of-marks-in-Ok : goal.shape_of-marks-in-Ok
shape_of-marks-in-Ok c =
    omega (arith, c.questions.auto)

pub shape_of-seen-in-Ok : goal.shape_of-seen-in-Ok
shape_of-seen-in-Ok c =
    omega (arith, c.questions.auto)

pub returns-in-Ok : goal.returns-in-Ok
returns-in-Ok c =
    let message = c.args.message.now in
    let here = c.requires.block_le_room in
    let y = asked_yes c.questions.ensures c.in-Ok.is in
    record {
      gives =
          λ t e w. served_image (limits_of c.args.limits) here.0 here.1 here.2
          (omega (arith, here.3.serial_size, (told_of w).few)) y t e w
          (byte_list message (λ i. Fits-lt-pow (c.type_inv.message i))) c.join.ensures;
    }
