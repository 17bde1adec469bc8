-- `readpages::read_pages_by` meets its contract: each answer is that of the first question that is answered no.
-- Assumes nothing.
use mathlib.Core.Path.{sym, ◌∙◌}
use Rattle.theory.proofs.LayoutLaws.{byte_list}
use Rattle.memory.specs.Header.{limits_of}
use Rattle.readpages.proofs.Answered.{size_refused, layout_refused, raw_fits, counted_long, counted_ready, block_put}
use native.Mathlib.Omega.{arith}
use Rattle.readpages.proofs.read_pages_by.Goals as goal

pub words-requires : goal.words-requires
words-requires c =
    c.requires.block_le_room.0

pub returns-then-block-words : goal.returns-then-block-words
returns-then-block-words c =
    size_refused (limits_of c.args.limits) _ _ (λ e. omega (arith, e, c.words.ensures, c.if-block-words.true))

pub read_raw-requires : goal.read_raw-requires
read_raw-requires c =
    c.requires.block_le_room

pub returns-then-not-read_raw : goal.returns-then-not-read_raw
returns-then-not-read_raw c =
    layout_refused (limits_of c.args.limits) _ _ (c.if-block-words.false ∙ c.words.ensures) c.read_raw.ensures c.if-not-read_raw.true

pub set_least-requires : goal.set_least-requires
set_least-requires c =
    let bytes = byte_list c.args.pages.now (λ i. (c.type_inv.pages i).fits) in
    raw_fits (limits_of c.args.limits) c.args.pages.now c.args.block.now (c.if-block-words.false ∙ c.words.ensures) c.read_raw.ensures
    c.requires.block_le_room.0 c.if-not-read_raw.false bytes

pub put_links-requires : goal.put_links-requires
put_links-requires c =
    let lim = limits_of c.args.limits in
    let block = c.args.block.now in
    let size = c.if-block-words.false ∙ c.words.ensures in
    let bytes = byte_list c.args.pages.now (λ i. (c.type_inv.pages i).fits) in
    let long = counted_long lim c.args.pages.now block size c.read_raw.ensures c.requires.block_le_room.0 c.if-not-read_raw.false bytes
    c.set_least.ensures in
    let ready = counted_ready lim c.args.pages.now block size c.read_raw.ensures c.requires.block_le_room.0 c.if-not-read_raw.false bytes
    c.set_least.ensures in
    let marks = c.requires.block_in_bounds in
    let keys = c.requires.block_in_bounds_2 in
    record {
      block_len = (size ∙ sym long, ready);
      made_in_bounds = (omega (arith, ready.fits, long, marks.0), marks.1);
      made_in_bounds_2 = (omega (arith, ready.fits, long, keys.0), omega (arith, ready.fits, long, keys.1), keys.2);
    }

pub returns : goal.returns
returns c =
    let bytes = byte_list c.args.pages.now (λ i. (c.type_inv.pages i).fits) in
    block_put (limits_of c.args.limits) _ _ (c.if-block-words.false ∙ c.words.ensures) c.read_raw.ensures c.requires.block_le_room.0
    c.if-not-read_raw.false bytes c.set_least.ensures c.put_links.ensures
