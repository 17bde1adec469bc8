-- `readpages::raw::first_right` meets its contract: three numbers, fifty blanks and a line feed.
-- Assumes nothing.
use mathlib.Core.Path.{◌≡◌, ap}
use Prim.Native.Nat.{suc, ◌+◌, ◌^◌, ◌<◌}
use Rattle.laws.proofs.Standings.{stands_is}
use Rattle.model.specs.Pages.{number_column}
use Rattle.text.proofs.Readings.{no_iff, told_no, told_yes}
use Rattle.readpages.proofs.PageTexts.{first_block, first_page, first_count, first_blanks, first_made}
use native.Mathlib.Omega.{arith}
use Rattle.readpages.proofs.raw.first_right.Goals as goal

pub column_is-requires : goal.column_is-requires
column_is-requires c =
    (omega (arith, c.requires.0, c.requires.2), omega (arith, c.requires.3))

pub returns-then-not-column_is : goal.returns-then-not-column_is
returns-then-not-column_is c =
    let pre = c.requires in
    let k = c.args.k in
    let total = c.args.total in
    let ha : c.args.number < 2 ^ 32 = omega (arith, pre.3) in
    let hb : suc k < 2 ^ 32 = omega (arith, pre.0, pre.1) in
    let hc : total < 2 ^ 32 = omega (arith, pre.1) in
    no_iff (λ t. told_no c.column_is.ensures c.if-not-column_is.true (first_block ha hb hc t))

pub overflow_add-at : goal.overflow_add-at
overflow_add-at c =
    omega (arith, c.requires.0, c.requires.1)

pub overflow_add-k : goal.overflow_add-k
overflow_add-k c =
    omega (arith, c.requires.0, c.requires.1)

pub column_is-requires-2 : goal.column_is-requires-2
column_is-requires-2 c =
    (omega (arith, c.requires.0, c.requires.2), omega (arith, c.requires.0, c.requires.1))

pub returns-then-not-column_is-2 : goal.returns-then-not-column_is-2
returns-then-not-column_is-2 c =
    let pre = c.requires in
    let k = c.args.k in
    let total = c.args.total in
    let ha : c.args.number < 2 ^ 32 = omega (arith, pre.3) in
    let hb : suc k < 2 ^ 32 = omega (arith, pre.0, pre.1) in
    let hc : total < 2 ^ 32 = omega (arith, pre.1) in
    let next : suc k ≡ 1 + k = omega arith in
    no_iff (λ t. told_no c.column_is-2.ensures c.if-not-column_is-2.true (stands_is (ap number_column next) (first_page ha hb hc t)))

pub overflow_add-at-2 : goal.overflow_add-at-2
overflow_add-at-2 c =
    omega (arith, c.requires.0, c.requires.1)

pub column_is-requires-3 : goal.column_is-requires-3
column_is-requires-3 c =
    (omega (arith, c.requires.0, c.requires.2), omega (arith, c.requires.1))

pub returns-then-not-column_is-3 : goal.returns-then-not-column_is-3
returns-then-not-column_is-3 c =
    let pre = c.requires in
    let k = c.args.k in
    let total = c.args.total in
    let ha : c.args.number < 2 ^ 32 = omega (arith, pre.3) in
    let hb : suc k < 2 ^ 32 = omega (arith, pre.0, pre.1) in
    let hc : total < 2 ^ 32 = omega (arith, pre.1) in
    no_iff (λ t. told_no c.column_is-3.ensures c.if-not-column_is-3.true (first_count ha hb hc t))

pub overflow_add-at-3 : goal.overflow_add-at-3
overflow_add-at-3 c =
    omega (arith, c.requires.0, c.requires.1)

pub blank-requires : goal.blank-requires
blank-requires c =
    omega (arith, c.requires.0, c.requires.2)

pub returns-then-not-blank : goal.returns-then-not-blank
returns-then-not-blank c =
    let pre = c.requires in
    let k = c.args.k in
    let total = c.args.total in
    let ha : c.args.number < 2 ^ 32 = omega (arith, pre.3) in
    let hb : suc k < 2 ^ 32 = omega (arith, pre.0, pre.1) in
    let hc : total < 2 ^ 32 = omega (arith, pre.1) in
    no_iff (λ t. told_no c.blank.ensures c.if-not-blank.true (first_blanks ha hb hc t))

pub overflow_add-result : goal.overflow_add-result
overflow_add-result c =
    omega (arith, c.requires.0, c.requires.1)

pub bounds-s-at : goal.bounds-s-at
bounds-s-at c =
    omega (arith, c.requires.0, c.requires.2)

pub returns : goal.returns
returns c =
    let pre = c.requires in
    let k = c.args.k in
    let total = c.args.total in
    let ha : c.args.number < 2 ^ 32 = omega (arith, pre.3) in
    let hb : suc k < 2 ^ 32 = omega (arith, pre.0, pre.1) in
    let hc : total < 2 ^ 32 = omega (arith, pre.1) in
    let next : 1 + k ≡ suc k = omega arith in
    first_made ha hb hc (told_yes c.column_is.ensures c.if-not-column_is.false)
    (stands_is (ap number_column next) (told_yes c.column_is-2.ensures c.if-not-column_is-2.false))
    (told_yes c.column_is-3.ensures c.if-not-column_is-3.false) (told_yes c.blank.ensures c.if-not-blank.false)
    (omega (arith, pre.0, pre.2))
