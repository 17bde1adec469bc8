-- `redirect::redirect_by` meets its contract: each answer is that of the first question that is answered no.
-- Assumes nothing.
use mathlib.Core.Path.{◌∙◌}
use native.Mathlib.Omega.{arith}
use Rattle.theory.proofs.ImageLaws.{count_fits, image_by_size}
use Rattle.answers.proofs.Questions.{said_no, said_yes}
use Rattle.memory.specs.Header.{limits_of}
use Rattle.redirect.proofs.Answered.{size_refused, image_refused, layout_refused, transfer_refused, follows, update_told}
use Rattle.redirect.proofs.redirect_by.Goals as goal

pub words-requires : goal.words-requires
words-requires c =
    c.requires.block_le_room

pub returns-then-block-words : goal.returns-then-block-words
returns-then-block-words c =
    size_refused (limits_of c.args.limits) _ _ (λ e. omega (arith, e, c.words.ensures, c.if-block-words.true))

pub is_sound_by-requires : goal.is_sound_by-requires
is_sound_by-requires c =
    let lent = c.requires.block_in_bounds_2 in
    record { block_le_room = (c.requires.block_le_room, lent.2, lent.0, lent.1); by_index = (lent.3, lent.4) }

pub returns-then-not-is_sound_by : goal.returns-then-not-is_sound_by
returns-then-not-is_sound_by c =
    let lim = limits_of c.args.limits in
    let size = c.if-block-words.false ∙ c.words.ensures in
    image_refused lim _ _ size (said_no c.is_sound_by.ensures c.if-not-is_sound_by.true)

pub received-requires : goal.received-requires
received-requires c =
    c.requires.vertex_len

pub redirect_update-requires : goal.redirect_update-requires
redirect_update-requires c =
    let lim = limits_of c.args.limits in
    let block = c.args.block.now in
    let image = said_yes c.is_sound_by.ensures c.if-not-is_sound_by.false in
    let sound = image_by_size lim block c.requires.block_le_room (c.if-block-words.false ∙ c.words.ensures) ∙ image in
    let fits = count_fits lim block image in
    let table = c.requires.block_in_bounds in
    let codes = c.requires.block_in_bounds_2 in
    record {
      block_value = (sound, follows c.in-Update.is c.received.ensures);
      block_in_bounds = (
        omega (arith, fits, c.if-block-words.false, c.words.ensures, table.0),
        λ q h. table.1 q (omega (arith, h, fits, c.if-block-words.false, c.words.ensures)),
        omega (arith, fits, c.if-block-words.false, c.words.ensures, table.2),
        table.3,
      );
      block_in_bounds_2 = (
        omega (arith, fits, c.if-block-words.false, c.words.ensures, codes.0, c.is_sound_by.auto),
        omega (arith, fits, c.if-block-words.false, c.words.ensures, codes.1, c.is_sound_by.auto),
      );
    }

pub returns-in-Transfer : goal.returns-in-Transfer
returns-in-Transfer c =
    let lim = limits_of c.args.limits in
    let block = c.args.block.now in
    let size = c.if-block-words.false ∙ c.words.ensures in
    transfer_refused lim block size (said_yes c.is_sound_by.ensures c.if-not-is_sound_by.false) _ c.in-Transfer.is c.received.ensures

pub shape_of-codes-in-Update : goal.shape_of-codes-in-Update
shape_of-codes-in-Update c =
    omega (arith, c.redirect_update.auto, c.is_sound_by.auto)

pub shape_of-scratch-in-Update : goal.shape_of-scratch-in-Update
shape_of-scratch-in-Update c =
    omega (arith, c.redirect_update.auto, c.is_sound_by.auto)

pub shape_of-seen-in-Update : goal.shape_of-seen-in-Update
shape_of-seen-in-Update c =
    omega (arith, c.is_sound_by.auto)

pub returns-in-Update : goal.returns-in-Update
returns-in-Update c =
    let lim = limits_of c.args.limits in
    let block = c.args.block.now in
    let size = c.if-block-words.false ∙ c.words.ensures in
    update_told lim block _ size (said_yes c.is_sound_by.ensures c.if-not-is_sound_by.false) c.in-Update.is c.received.ensures
    c.redirect_update.ensures

pub returns-in-Nothing : goal.returns-in-Nothing
returns-in-Nothing c =
    let lim = limits_of c.args.limits in
    let block = c.args.block.now in
    let size = c.if-block-words.false ∙ c.words.ensures in
    layout_refused lim block size (said_yes c.is_sound_by.ensures c.if-not-is_sound_by.false) _ c.in-Nothing.is c.received.ensures
