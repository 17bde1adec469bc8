-- `readpages::raw::read_raw` meets its contract: each test is answered no where there are no pages, and all of them make the whole.
-- Assumes nothing.
use mathlib.Core.Path.{refl}
use Prim.Native.Nat.{◌/◌}
use lib.ListN.{length}
use Rattle.model.specs.Image.{words_of}
use Rattle.theory.proofs.LayoutLaws.{byte_list}
use Rattle.memory.specs.Header.{limits_of}
use Rattle.text.proofs.Readings.{told_no, told_yes}
use Rattle.newblock.proofs.Stored.{zeros_length}
use Rattle.readpages.proofs.PageTexts.{few_or_many, right_many, counted_most, counted_within}
use Rattle.readpages.proofs.RawPages.{other_size, other_count, no_number, number_large, too_many, not_filled, no_firsts, no_rest, no_rows, pages_read}
use native.Mathlib.Omega.{arith}
use Rattle.readpages.proofs.raw.read_raw.Goals as goal

pub returns-then-total-s : goal.returns-then-total-s
returns-then-total-s c =
    let lim = limits_of c.args.limits in
    let s = c.args.s.now in
    let bytes = byte_list s (λ i. (c.type_inv.s i).fits) in
    other_size lim c.requires.0 s bytes refl c.if-total-s.true

pub returns-then-total : goal.returns-then-total
returns-then-total c =
    let lim = limits_of c.args.limits in
    let s = c.args.s.now in
    let bytes = byte_list s (λ i. (c.type_inv.s i).fits) in
    other_count lim c.requires.0 s bytes refl (few_or_many _ c.if-total.true)

pub read_column-requires : goal.read_column-requires
read_column-requires c =
    let few = right_many (length c.args.s.now / 4860) c.if-total.false in
    omega (arith, few.0, c.if-total-s.false)

pub returns-in_default : goal.returns-in_default
returns-in_default c =
    let lim = limits_of c.args.limits in
    let s = c.args.s.now in
    let bytes = byte_list s (λ i. (c.type_inv.s i).fits) in
    no_number lim c.requires.0 s bytes refl (rw c.in_default.is at c.read_column.ensures)

pub returns-then-number-ge-BLOCKS : goal.returns-then-number-ge-BLOCKS
returns-then-number-ge-BLOCKS c =
    let column = rw c.in-Some.is at c.read_column.ensures in
    let lim = limits_of c.args.limits in
    let s = c.args.s.now in
    let bytes = byte_list s (λ i. (c.type_inv.s i).fits) in
    number_large lim c.requires.0 s bytes refl column c.if-number-ge-BLOCKS.true

pub row_count-n-requires : goal.row_count-n-requires
row_count-n-requires c =
    let few = right_many _ c.if-total.false in
    (few.1, omega (arith, c.if-total-s.false))

pub returns-then-limits-n : goal.returns-then-limits-n
returns-then-limits-n c =
    let column = rw c.in-Some.is at c.read_column.ensures in
    let lim = limits_of c.args.limits in
    let s = c.args.s.now in
    let bytes = byte_list s (λ i. (c.type_inv.s i).fits) in
    too_many lim c.requires.0 s bytes refl column c.row_count-n.ensures c.if-limits-n.true

pub fills-requires : goal.fills-requires
fills-requires c =
    let few = right_many _ c.if-total.false in
    (few.0, few.1, counted_most c.args.s.now _ c.row_count-n.ensures)

pub returns-then-not-fills : goal.returns-then-not-fills
returns-then-not-fills c =
    let column = rw c.in-Some.is at c.read_column.ensures in
    let lim = limits_of c.args.limits in
    let s = c.args.s.now in
    let bytes = byte_list s (λ i. (c.type_inv.s i).fits) in
    not_filled lim c.requires.0 s bytes refl column c.row_count-n.ensures (told_no c.fills.ensures c.if-not-fills.true)

pub firsts_right-requires : goal.firsts_right-requires
firsts_right-requires c =
    let few = right_many _ c.if-total.false in
    (few.1, omega (arith, c.if-total-s.false), omega (arith, c.if-number-ge-BLOCKS.false))

pub returns-then-not-firsts_right : goal.returns-then-not-firsts_right
returns-then-not-firsts_right c =
    let column = rw c.in-Some.is at c.read_column.ensures in
    let lim = limits_of c.args.limits in
    let s = c.args.s.now in
    let bytes = byte_list s (λ i. (c.type_inv.s i).fits) in
    no_firsts lim c.requires.0 s bytes refl column c.row_count-n.ensures (told_no c.firsts_right.ensures c.if-not-firsts_right.true)

pub rest_blank-requires : goal.rest_blank-requires
rest_blank-requires c =
    let few = right_many _ c.if-total.false in
    (few.1, omega (arith, c.if-total-s.false), counted_most c.args.s.now _ c.row_count-n.ensures)

pub returns-then-not-rest_blank : goal.returns-then-not-rest_blank
returns-then-not-rest_blank c =
    let column = rw c.in-Some.is at c.read_column.ensures in
    let lim = limits_of c.args.limits in
    let s = c.args.s.now in
    let bytes = byte_list s (λ i. (c.type_inv.s i).fits) in
    no_rest lim c.requires.0 s bytes refl column c.row_count-n.ensures (told_no c.rest_blank.ensures c.if-not-rest_blank.true)

pub store_rows-requires : goal.store_rows-requires
store_rows-requires c =
    let lim = limits_of c.args.limits in
    let long = zeros_length (words_of lim) c.args.block.now c.requires.1 in (
      omega (arith, c.if-limits-n.false, c.requires.0),
      counted_within c.args.s.now (length c.args.s.now / 4860) c.row_count-n.ensures (omega (arith, c.if-total-s.false)),
      omega (arith, c.if-limits-n.false, long),
    )

pub returns-then-not-store_rows : goal.returns-then-not-store_rows
returns-then-not-store_rows c =
    let wrong = c.if-not-store_rows.true in
    let column = rw c.in-Some.is at c.read_column.ensures in
    let lim = limits_of c.args.limits in
    let s = c.args.s.now in
    let bytes = byte_list s (λ i. (c.type_inv.s i).fits) in
    no_rows lim c.requires.0 s bytes refl column c.row_count-n.ensures (rw wrong at c.store_rows.ensures)

pub write-requires : goal.write-requires
write-requires c =
    let long = zeros_length (words_of (limits_of c.args.limits)) c.args.block.now c.requires.1 in
    omega (arith, long, c.store_rows.auto.block)

pub returns : goal.returns
returns c =
    let column = rw c.in-Some.is at c.read_column.ensures in
    let lim = limits_of c.args.limits in
    let s = c.args.s.now in
    let bytes = byte_list s (λ i. (c.type_inv.s i).fits) in
    let stored = rw c.if-not-store_rows.false at c.store_rows.ensures in
    pages_read lim c.requires.0 s bytes refl column c.row_count-n.ensures
    c.if-total-s.false (omega (arith, c.if-number-ge-BLOCKS.false)) (omega (arith, c.if-limits-n.false))
    (told_yes c.fills.ensures c.if-not-fills.false)
    (told_yes c.firsts_right.ensures c.if-not-firsts_right.false) (told_yes c.rest_blank.ensures c.if-not-rest_blank.false) stored.rows
    c.requires.1 stored.memory c.write.ensures
