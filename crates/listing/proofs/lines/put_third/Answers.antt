-- `listing::lines::put_third` meets its contract: the texts of each kind, one stored after the other.
-- Assumes nothing.
use mathlib.Core.Path.{sym, ◌∙◌}
use Rattle.model.specs.Image.{label_in, other_in}
use Rattle.model.specs.Text.{bytes}
use Rattle.groups.proofs.Writing.{stored_then}
use Rattle.theory.proofs.TextLaws.{decimal_ten}
use Rattle.listing.proofs.Copies.{stored_past}
use Rattle.listing.proofs.LineTexts.{ended_most, free_text, sewn_text, crit_text, other_short, maker_short, number_short, position_short}
use native.Mathlib.Omega.{arith}
use Rattle.listing.proofs.lines.put_third.Goals as goal

pub returns-then-is_free : goal.returns-then-is_free
unfolding bytes
returns-then-is_free c =
    let free = sym c.is_free.ensures ∙ c.if-is_free.true in
    rw (free_text c.args.kind c.args.named free) c.put_text.ensures

pub put_decimal-requires : goal.put_decimal-requires
put_decimal-requires c =
    let sewn = sym c.is_sewn.ensures ∙ c.if-is_sewn.true in
    let h = c.requires.0.sewn_small sewn in
    let p = stored_past 5 c.put_text-past_sewn.ensures (omega arith) in
    (h, omega (arith, decimal_ten c.args.named h, c.requires.1))

pub returns-then-is_sewn : goal.returns-then-is_sewn
unfolding bytes
returns-then-is_sewn c =
    let sewn = sym c.is_sewn.ensures ∙ c.if-is_sewn.true in
    rw (sewn_text c.args.kind c.args.named sewn) (stored_then c.put_text-past_sewn.ensures c.put_decimal.ensures)

pub put_number-past_other-requires : goal.put_number-past_other-requires
put_number-past_other-requires c =
    let p = stored_past 5 c.put_text-past_crit.ensures (omega arith) in
    rw c.other_of.ensures (omega (arith, c.requires.0.other_small), omega (arith, other_short c.requires.0, c.requires.1))

pub put_number-past_maker-requires : goal.put_number-past_maker-requires
put_number-past_maker-requires c =
    let p = stored_past 5 c.put_text-past_crit.ensures (omega arith) in
    let o = rw c.other_of.ensures at c.put_number-past_other.ensures in
    let q = stored_past 3 o (ended_most 2 (other_in c.args.kind) 32 (other_short c.requires.0)) in
    rw c.maker_of.ensures (omega (arith, c.requires.0.named_small), omega (arith, maker_short c.requires.0, c.requires.1))

pub put_number-past_number-requires : goal.put_number-past_number-requires
put_number-past_number-requires c =
    let p = stored_past 5 c.put_text-past_crit.ensures (omega arith) in
    let o = rw c.other_of.ensures at c.put_number-past_other.ensures in
    let q = stored_past 3 o (ended_most 2 (other_in c.args.kind) 32 (other_short c.requires.0)) in
    let m = rw c.maker_of.ensures at c.put_number-past_maker.ensures in
    let r = stored_past 3 m (ended_most 2 (label_in c.args.named).maker 46 (maker_short c.requires.0)) in
    rw c.number_of.ensures (omega arith, omega (arith, number_short c.requires.0, c.requires.1))

pub put_decimal-requires-2 : goal.put_decimal-requires-2
put_decimal-requires-2 c =
    let p = stored_past 5 c.put_text-past_crit.ensures (omega arith) in
    let o = rw c.other_of.ensures at c.put_number-past_other.ensures in
    let q = stored_past 3 o (ended_most 2 (other_in c.args.kind) 32 (other_short c.requires.0)) in
    let m = rw c.maker_of.ensures at c.put_number-past_maker.ensures in
    let r = stored_past 3 m (ended_most 2 (label_in c.args.named).maker 46 (maker_short c.requires.0)) in
    let n = rw c.number_of.ensures at c.put_number-past_number.ensures in
    let s = stored_past 11 n (ended_most 10 (label_in c.args.named).number 46 (number_short c.requires.0)) in
    rw c.position_of.ensures (omega arith, omega (arith, position_short c.requires.0, c.requires.1))

pub returns : goal.returns
unfolding bytes
returns c =
    let start = c in
    let not-Free = sym c.is_free.ensures ∙ c.if-is_free.false in
    let not_sewn = sym c.is_sewn.ensures ∙ c.if-is_sewn.false in
    let o = rw c.other_of.ensures at c.put_number-past_other.ensures in
    let m = rw c.maker_of.ensures at c.put_number-past_maker.ensures in
    let n = rw c.number_of.ensures at c.put_number-past_number.ensures in
    let d = rw c.position_of.ensures at c.put_decimal-2.ensures in
    rw (crit_text start.args.kind start.args.named not-Free not_sewn)
    (stored_then (stored_then (stored_then (stored_then c.put_text-past_crit.ensures o) m) n) d)
