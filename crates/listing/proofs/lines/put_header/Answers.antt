-- `listing::lines::put_header` meets its contract: texts and numbers, one stored after the other.
-- Assumes nothing.
use Rattle.model.specs.Text.{bytes}
use Rattle.groups.proofs.Writing.{stored_then}
use Rattle.savefile.proofs.Sizes.{header_here, number_small, counter_small, count_small}
use Rattle.listing.proofs.Copies.{stored_past}
use Rattle.listing.proofs.LineTexts.{block_short, count_short, counter_short, header_parts}
use native.Mathlib.Omega.{arith}
use Rattle.listing.proofs.lines.put_header.Goals as goal

pub bounds-block-0 : goal.bounds-block-0
bounds-block-0 c =
    omega (arith, header_here c.args.block.now c.requires.0)

pub put_decimal-past_number-requires : goal.put_decimal-past_number-requires
put_decimal-past_number-requires c =
    let p = stored_past 6 c.put_text-past_block.ensures (omega arith) in
    (omega (arith, number_small c.args.block.now c.requires.0), omega (arith, block_short c.args.block.now c.requires.0, c.requires.1))

pub put_text-past_darts-requires : goal.put_text-past_darts-requires
put_text-past_darts-requires c =
    let p = stored_past 6 c.put_text-past_block.ensures (omega arith) in
    let q = stored_past 2 c.put_decimal-past_number.ensures (block_short c.args.block.now c.requires.0) in
    omega (arith, c.requires.1)

pub bounds-block-2 : goal.bounds-block-2
bounds-block-2 c =
    omega (arith, header_here c.args.block.now c.requires.0)

pub put_decimal-past_count-requires : goal.put_decimal-past_count-requires
put_decimal-past_count-requires c =
    let p = stored_past 6 c.put_text-past_block.ensures (omega arith) in
    let q = stored_past 2 c.put_decimal-past_number.ensures (block_short c.args.block.now c.requires.0) in
    let r = stored_past 7 c.put_text-past_darts.ensures (omega arith) in
    (omega (arith, count_small c.args.block.now c.requires.0), omega (arith, count_short c.args.block.now c.requires.0, c.requires.1))

pub put_text-past_counter-requires : goal.put_text-past_counter-requires
put_text-past_counter-requires c =
    let p = stored_past 6 c.put_text-past_block.ensures (omega arith) in
    let q = stored_past 2 c.put_decimal-past_number.ensures (block_short c.args.block.now c.requires.0) in
    let r = stored_past 7 c.put_text-past_darts.ensures (omega arith) in
    let s = stored_past 4 c.put_decimal-past_count.ensures (count_short c.args.block.now c.requires.0) in
    omega (arith, c.requires.1)

pub bounds-block-1 : goal.bounds-block-1
bounds-block-1 c =
    omega (arith, header_here c.args.block.now c.requires.0)

pub put_number-requires : goal.put_number-requires
put_number-requires c =
    let p = stored_past 6 c.put_text-past_block.ensures (omega arith) in
    let q = stored_past 2 c.put_decimal-past_number.ensures (block_short c.args.block.now c.requires.0) in
    let r = stored_past 7 c.put_text-past_darts.ensures (omega arith) in
    let s = stored_past 4 c.put_decimal-past_count.ensures (count_short c.args.block.now c.requires.0) in
    let t = stored_past 9 c.put_text-past_counter.ensures (omega arith) in
    (counter_small c.args.block.now c.requires.0, omega (arith, counter_short c.args.block.now c.requires.0, c.requires.1))

pub returns : goal.returns
unfolding bytes
returns c =
    let block = c.args.block.now in
    rw (header_parts block)
    (stored_then
    (stored_then
    (stored_then (stored_then (stored_then c.put_text-past_block.ensures c.put_decimal-past_number.ensures) c.put_text-past_darts.ensures) c.put_decimal-past_count.ensures)
    c.put_text-past_counter.ensures) c.put_number.ensures)
