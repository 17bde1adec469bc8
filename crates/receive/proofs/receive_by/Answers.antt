-- `receive::receive_by` meets its contract: each answer is that of the first question that is answered no.
-- Assumes nothing.
use mathlib.Core.Path.{◌∙◌}
use Rattle.theory.proofs.ImageLaws.{image_by_size}
use Rattle.answers.proofs.Questions.{said_no, said_yes}
use Rattle.memory.specs.Header.{limits_of}
use Rattle.receive.proofs.Answered.{size_refused, image_refused, layout_refused, update_refused, outline_of, taken}
use Rattle.receive.proofs.Arrays.{lent_still}
use native.Mathlib.Omega.{arith}
use Rattle.receive.proofs.receive_by.Goals as goal

pub words-requires : goal.words-requires
words-requires c =
    c.requires.block_le_room.0

pub returns-then-block-words : goal.returns-then-block-words
returns-then-block-words c =
    size_refused (limits_of c.args.limits) _ _ (λ e. omega (arith, e, c.words.ensures, c.if-block-words.true))

pub is_sound_by-requires : goal.is_sound_by-requires
is_sound_by-requires c =
    let lent = c.requires.lent_arrays in
    let more = c.requires.block_in_bounds in
    record { block_le_room = (c.requires.block_le_room.0, more.0, lent.codes_all, lent.draft_all); by_index = (more.1, more.2) }

pub returns-then-not-is_sound_by : goal.returns-then-not-is_sound_by
returns-then-not-is_sound_by c =
    let lim = limits_of c.args.limits in
    let size = c.if-block-words.false ∙ c.words.ensures in
    image_refused lim _ _ size (said_no c.is_sound_by.ensures c.if-not-is_sound_by.true)

pub message_in-requires : goal.message_in-requires
message_in-requires c =
    c.requires.block_le_room.1

pub take-requires : goal.take-requires
take-requires c =
    let lim = limits_of c.args.limits in
    let block = c.args.block.now in
    let size = c.if-block-words.false ∙ c.words.ensures in
    let sound = image_by_size lim block c.requires.block_le_room.0 size ∙ said_yes c.is_sound_by.ensures c.if-not-is_sound_by.false in
    record {
      block_le_room = (c.requires.block_le_room.0, size, sound, c.message_in.ensures.sides, outline_of c.in-Transfer.is c.message_in.ensures);
      lent_arrays = lent_still c.requires.lent_arrays (omega (arith, c.is_sound_by.auto)) (omega (arith, c.is_sound_by.auto));
    }

pub shape_of-block-in-Transfer : goal.shape_of-block-in-Transfer
shape_of-block-in-Transfer c =
    omega (arith, c.take.auto)

pub shape_of-vertex-in-Transfer : goal.shape_of-vertex-in-Transfer
shape_of-vertex-in-Transfer c =
    omega (arith, c.take.auto, c.message_in.auto)

pub shape_of-serial-in-Transfer : goal.shape_of-serial-in-Transfer
shape_of-serial-in-Transfer c =
    omega (arith, c.take.auto, c.message_in.auto)

pub shape_of-starts-in-Transfer : goal.shape_of-starts-in-Transfer
shape_of-starts-in-Transfer c =
    omega (arith, c.message_in.auto)

pub shape_of-sizes-in-Transfer : goal.shape_of-sizes-in-Transfer
shape_of-sizes-in-Transfer c =
    omega (arith, c.message_in.auto)

pub shape_of-keys : goal.shape_of-keys
shape_of-keys c =
    omega (arith, c.take.auto)

pub shape_of-ranks : goal.shape_of-ranks
shape_of-ranks c =
    omega (arith, c.take.auto)

pub shape_of-opposite : goal.shape_of-opposite
shape_of-opposite c =
    omega (arith, c.take.auto)

pub shape_of-draft-in-Transfer : goal.shape_of-draft-in-Transfer
shape_of-draft-in-Transfer c =
    omega (arith, c.take.auto, c.is_sound_by.auto)

pub shape_of-kinds : goal.shape_of-kinds
shape_of-kinds c =
    omega (arith, c.take.auto)

pub shape_of-links : goal.shape_of-links
shape_of-links c =
    omega (arith, c.take.auto)

pub shape_of-old : goal.shape_of-old
shape_of-old c =
    omega (arith, c.take.auto)

pub shape_of-new : goal.shape_of-new
shape_of-new c =
    omega (arith, c.take.auto)

pub shape_of-codes-in-Transfer : goal.shape_of-codes-in-Transfer
shape_of-codes-in-Transfer c =
    omega (arith, c.take.auto, c.is_sound_by.auto)

pub shape_of-indices : goal.shape_of-indices
shape_of-indices c =
    omega (arith, c.take.auto)

pub shape_of-numbers : goal.shape_of-numbers
shape_of-numbers c =
    omega (arith, c.take.auto)

pub shape_of-third : goal.shape_of-third
shape_of-third c =
    omega (arith, c.take.auto)

pub shape_of-places : goal.shape_of-places
shape_of-places c =
    omega (arith, c.take.auto)

pub shape_of-marks : goal.shape_of-marks
shape_of-marks c =
    omega (arith, c.take.auto)

pub shape_of-seen : goal.shape_of-seen
shape_of-seen c =
    omega (arith, c.take.auto)

pub shape_of-met-in-Transfer : goal.shape_of-met-in-Transfer
shape_of-met-in-Transfer c =
    omega (arith, c.is_sound_by.auto)

pub returns-in-Transfer : goal.returns-in-Transfer
returns-in-Transfer c =
    taken (limits_of c.args.limits) c.args.block.now c.args.message.now c.in-Transfer.is c.message_in.ensures c.take.ensures

pub returns-in-Update : goal.returns-in-Update
returns-in-Update c =
    let lim = limits_of c.args.limits in
    let block = c.args.block.now in
    let size = c.if-block-words.false ∙ c.words.ensures in
    update_refused lim block size (said_yes c.is_sound_by.ensures c.if-not-is_sound_by.false) c.in-Update.is c.message_in.ensures

pub returns-in-Nothing : goal.returns-in-Nothing
returns-in-Nothing c =
    let lim = limits_of c.args.limits in
    let block = c.args.block.now in
    let size = c.if-block-words.false ∙ c.words.ensures in
    layout_refused lim block size (said_yes c.is_sound_by.ensures c.if-not-is_sound_by.false) c.in-Nothing.is c.message_in.ensures
