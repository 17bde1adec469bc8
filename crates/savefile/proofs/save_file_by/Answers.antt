-- `savefile::save_file_by` meets its contract: each answer is that of the first question that is answered no.
-- Assumes nothing.
use mathlib.Core.Path.{◌∙◌}
use Rattle.theory.proofs.ImageLaws.{image_by_size}
use Rattle.answers.proofs.Questions.{said_no, said_yes}
use Rattle.memory.specs.Header.{limits_of}
use Rattle.savefile.proofs.WholeFile.{refused_size, refused_image, refused_output, served_file}
use native.Mathlib.Omega.{arith}
use Rattle.savefile.proofs.save_file_by.Goals as goal

pub returns-then-block-words : goal.returns-then-block-words
returns-then-block-words c =
    refused_size (limits_of c.args.limits) _ _ (λ e. omega (arith, e, c.words.ensures, c.if-block-words.true))

pub returns-then-not-is_sound_by : goal.returns-then-not-is_sound_by
returns-then-not-is_sound_by c =
    let lim = limits_of c.args.limits in
    refused_image lim _ _ (c.if-block-words.false ∙ c.words.ensures) (said_no c.is_sound_by.ensures c.if-not-is_sound_by.true)

pub long_enough-requires : goal.long_enough-requires
long_enough-requires c =
    let lim = limits_of c.args.limits in
    image_by_size lim c.args.block.now c.requires.block_le_room.0 (c.if-block-words.false ∙ c.words.ensures) ∙ said_yes c.is_sound_by.ensures
    c.if-not-is_sound_by.false

pub returns-then-not-long_enough : goal.returns-then-not-long_enough
returns-then-not-long_enough c =
    let lim = limits_of c.args.limits in
    refused_output lim _ _ (c.if-block-words.false ∙ c.words.ensures) (said_yes c.is_sound_by.ensures c.if-not-is_sound_by.false)
    (said_no (c.long_enough.ensures lim) c.if-not-long_enough.true)

pub put_file-n-requires : goal.put_file-n-requires
put_file-n-requires c =
    let lim = limits_of c.args.limits in
    image_by_size lim c.args.block.now c.requires.block_le_room.0 (c.if-block-words.false ∙ c.words.ensures) ∙ said_yes c.is_sound_by.ensures
    c.if-not-is_sound_by.false

pub returns : goal.returns
returns c =
    let lim = limits_of c.args.limits in
    served_file lim _ _ (c.if-block-words.false ∙ c.words.ensures) (said_yes c.is_sound_by.ensures c.if-not-is_sound_by.false)
    (said_yes (c.long_enough.ensures lim) c.if-not-long_enough.false) (c.put_file-n.ensures lim)
