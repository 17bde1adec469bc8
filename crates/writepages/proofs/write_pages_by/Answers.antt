-- `writepages::write_pages_by` meets its contract: each answer is that of the first question that is answered no.
-- Assumes nothing.
use mathlib.Core.Path.{◌∙◌}
use Rattle.theory.proofs.ImageLaws.{image_by_size}
use Rattle.answers.proofs.Questions.{said_no, said_yes}
use Rattle.memory.specs.Header.{limits_of}
use Rattle.savefile.proofs.Sizes.{count_small}
use Rattle.writepages.proofs.PageParts.{few_pages}
use Rattle.writepages.proofs.WholePages.{refused_size, refused_image, refused_output, served_pages}
use native.Mathlib.Omega.{arith}
use Rattle.writepages.proofs.write_pages_by.Goals as goal

pub returns-then-block-words : goal.returns-then-block-words
returns-then-block-words c =
    refused_size (limits_of c.args.limits) _ _ (λ e. omega (arith, e, c.words.ensures, c.if-block-words.true))

pub returns-then-not-is_sound_by : goal.returns-then-not-is_sound_by
returns-then-not-is_sound_by c =
    let lim = limits_of c.args.limits in
    refused_image lim _ _ (c.if-block-words.false ∙ c.words.ensures) (said_no c.is_sound_by.ensures c.if-not-is_sound_by.true)

pub page_count-pages-requires : goal.page_count-pages-requires
page_count-pages-requires c =
    let lim = limits_of c.args.limits in
    count_small c.args.block.now
    (image_by_size lim c.args.block.now c.requires.block_le_room.0 (c.if-block-words.false ∙ c.words.ensures) ∙ said_yes c.is_sound_by.ensures
    c.if-not-is_sound_by.false)

pub overflow_mul-pages : goal.overflow_mul-pages
overflow_mul-pages c =
    let lim = limits_of c.args.limits in
    let held = image_by_size lim c.args.block.now c.requires.block_le_room.0 (c.if-block-words.false ∙ c.words.ensures) ∙ said_yes
    c.is_sound_by.ensures c.if-not-is_sound_by.false in
    omega (arith, few_pages c.args.block.now held c.page_count-pages.ensures)

pub returns-then-out-pages : goal.returns-then-out-pages
returns-then-out-pages c =
    let lim = limits_of c.args.limits in
    let sound = said_yes c.is_sound_by.ensures c.if-not-is_sound_by.false in
    let held = image_by_size lim c.args.block.now c.requires.block_le_room.0 (c.if-block-words.false ∙ c.words.ensures) ∙ sound in
    refused_output lim _ _ (c.if-block-words.false ∙ c.words.ensures) sound held c.page_count-pages.ensures c.if-out-pages.true

pub put_pages-n-requires : goal.put_pages-n-requires
put_pages-n-requires c =
    let lim = limits_of c.args.limits in
    let held = image_by_size lim c.args.block.now c.requires.block_le_room.0 (c.if-block-words.false ∙ c.words.ensures) ∙ said_yes
    c.is_sound_by.ensures c.if-not-is_sound_by.false in
    (held, c.page_count-pages.ensures, c.if-out-pages.false)

pub returns : goal.returns
returns c =
    let lim = limits_of c.args.limits in
    let sound = said_yes c.is_sound_by.ensures c.if-not-is_sound_by.false in
    let held = image_by_size lim c.args.block.now c.requires.block_le_room.0 (c.if-block-words.false ∙ c.words.ensures) ∙ sound in
    served_pages lim _ _ (c.if-block-words.false ∙ c.words.ensures) sound held c.page_count-pages.ensures c.if-out-pages.false c.put_pages-n.ensures
