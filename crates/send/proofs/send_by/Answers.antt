-- `send::send_by` meets its contract: each answer is that of the first question that is answered no. Assumes nothing.
use mathlib.Core.Path.{refl, ◌∙◌}
use Rattle.theory.proofs.ImageLaws.{count_fits, image_by_size}
use Rattle.answers.proofs.Questions.{said_no, said_yes}
use Rattle.memory.specs.Header.{limits_of}
use Rattle.send.proofs.SentLaws.{refused_size, refused_image}
use native.Mathlib.Omega.{arith}
use Rattle.send.proofs.send_by.Goals as goal

pub words-requires : goal.words-requires
words-requires c =
    c.requires.block_le_room.0

pub returns-then-block-words : goal.returns-then-block-words
returns-then-block-words c =
    refused_size _ _ _ _ (limits_of c.args.limits) (λ e. omega (arith, e, c.words.ensures, c.if-block-words.true))

pub is_sound_by-requires : goal.is_sound_by-requires
is_sound_by-requires c =
    let lent = c.requires.block_in_bounds in
    record { block_le_room = (c.requires.block_le_room.0, lent.0, lent.1, lent.2); by_index = (lent.3, lent.4) }

pub returns-then-not-is_sound_by : goal.returns-then-not-is_sound_by
returns-then-not-is_sound_by c =
    refused_image _ _ _ _ (limits_of c.args.limits) (c.if-block-words.false ∙ c.words.ensures)
    (said_no c.is_sound_by.ensures c.if-not-is_sound_by.true)

pub send_volume-requires : goal.send_volume-requires
send_volume-requires c =
    let lim = limits_of c.args.limits in
    let block = c.args.block.now in
    let size = c.if-block-words.false ∙ c.words.ensures in
    let image = said_yes c.is_sound_by.ensures c.if-not-is_sound_by.false in
    let few = count_fits lim block image in
    let marks = c.requires.block_in_bounds_2 in
    let places = c.requires.block_in_bounds_3 in
    record {
      block_len = (size, image, image_by_size lim block c.requires.block_le_room.0 size ∙ image, c.requires.block_le_room.1);
      block_in_bounds = (omega (arith, few, size, marks.0), marks.1, omega (arith, few, size, marks.2), marks.3);
      block_in_bounds_2 = (omega (arith, few, size, places.0), omega (arith, few, size, places.1), omega (arith, few, size, places.2));
      block_in_bounds_3 = (omega (arith, few, size, places.3), c.requires.block_le_room.2);
      labels_value = (refl, refl);
    }

pub returns : goal.returns
returns c =
    c.send_volume.ensures
