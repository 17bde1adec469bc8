-- `readpages::row::read_row` meets its contract: each column's value, or that there is no row.
-- Assumes nothing.
use Rattle.text.proofs.Readings.{told_no, told_yes}
use Rattle.readpages.proofs.RowTexts.{no_serial, no_next, no_opposite, third_place, no_gap, no_link, feed_place, no_feed, row_found}
use native.Mathlib.Omega.{arith}
use Rattle.readpages.proofs.row.read_row.Goals as goal

pub returns-in_err-serial : goal.returns-in_err-serial
returns-in_err-serial c =
    rw c.from_residual.ensures (
    no_serial (rw c.in_err-serial.was at c.read_column.ensures))

pub read_column-requires-2 : goal.read_column-requires-2
read_column-requires-2 c =
    let c1 = rw c.in_ok-serial.was at c.read_column.ensures in
    omega (arith, c.requires, c1.past_is)

pub returns-in_err-next : goal.returns-in_err-next
returns-in_err-next c =
    rw c.from_residual-in_err-next.ensures (
    let c1 = rw c.in_ok-serial.was at c.read_column.ensures in
    no_next c1 (rw c.in_err-next.was at c.read_column-2.ensures))

pub read_column-requires-3 : goal.read_column-requires-3
read_column-requires-3 c =
    let c1 = rw c.in_ok-serial.was at c.read_column.ensures in
    let c2 = rw c.in_ok-next.was at c.read_column-2.ensures in
    omega (arith, c.requires, c1.past_is, c2.past_is)

pub returns-in_err-opposite : goal.returns-in_err-opposite
returns-in_err-opposite c =
    rw c.from_residual-in_err-opposite.ensures (
    let c1 = rw c.in_ok-serial.was at c.read_column.ensures in
    let c2 = rw c.in_ok-next.was at c.read_column-2.ensures in
    no_opposite c1 c2 (rw c.in_err-opposite.was at c.read_column-3.ensures))

pub blank-requires : goal.blank-requires
blank-requires c =
    let c1 = rw c.in_ok-serial.was at c.read_column.ensures in
    let c2 = rw c.in_ok-next.was at c.read_column-2.ensures in
    let c3 = rw c.in_ok-opposite.was at c.read_column-3.ensures in
    omega (arith, c.requires, third_place c1 c2 c3)

pub returns-then-not-blank : goal.returns-then-not-blank
returns-then-not-blank c =
    let c1 = rw c.in_ok-serial.was at c.read_column.ensures in
    let c2 = rw c.in_ok-next.was at c.read_column-2.ensures in
    let c3 = rw c.in_ok-opposite.was at c.read_column-3.ensures in
    no_gap c1 c2 c3 (told_no c.blank.ensures c.if-not-blank.true)

pub overflow_add-past_opposite : goal.overflow_add-past_opposite
overflow_add-past_opposite c =
    let c1 = rw c.in_ok-serial.was at c.read_column.ensures in
    let c2 = rw c.in_ok-next.was at c.read_column-2.ensures in
    let c3 = rw c.in_ok-opposite.was at c.read_column-3.ensures in
    omega (arith, c.requires, third_place c1 c2 c3)

pub read_third-requires : goal.read_third-requires
read_third-requires c =
    let c1 = rw c.in_ok-serial.was at c.read_column.ensures in
    let c2 = rw c.in_ok-next.was at c.read_column-2.ensures in
    let c3 = rw c.in_ok-opposite.was at c.read_column-3.ensures in
    omega (arith, c.requires, third_place c1 c2 c3)

pub returns-in_err-kind : goal.returns-in_err-kind
returns-in_err-kind c =
    rw c.from_residual-in_err-kind.ensures (
    let c1 = rw c.in_ok-serial.was at c.read_column.ensures in
    let c2 = rw c.in_ok-next.was at c.read_column-2.ensures in
    let c3 = rw c.in_ok-opposite.was at c.read_column-3.ensures in
    no_link c1 c2 c3 (rw c.in_err-kind.was at c.read_third.ensures))

pub bounds-s-past : goal.bounds-s-past
bounds-s-past c =
    let c4 = rw c.in_ok-kind.was at c.read_third.ensures in
    let c1 = rw c.in_ok-serial.was at c.read_column.ensures in
    let c2 = rw c.in_ok-next.was at c.read_column-2.ensures in
    let c3 = rw c.in_ok-opposite.was at c.read_column-3.ensures in
    omega (arith, c.requires, feed_place c1 c2 c3 c4)

pub returns-then-s-past-ne-LINE_FEED : goal.returns-then-s-past-ne-LINE_FEED
returns-then-s-past-ne-LINE_FEED c =
    let c4 = rw c.in_ok-kind.was at c.read_third.ensures in
    let c1 = rw c.in_ok-serial.was at c.read_column.ensures in
    let c2 = rw c.in_ok-next.was at c.read_column-2.ensures in
    let c3 = rw c.in_ok-opposite.was at c.read_column-3.ensures in
    no_feed c1 c2 c3 c4 c.if-s-past-ne-LINE_FEED.true

pub returns : goal.returns
returns c =
    let c4 = rw c.in_ok-kind.was at c.read_third.ensures in
    let c1 = rw c.in_ok-serial.was at c.read_column.ensures in
    let c2 = rw c.in_ok-next.was at c.read_column-2.ensures in
    let c3 = rw c.in_ok-opposite.was at c.read_column-3.ensures in
    row_found c1 c2 c3 c4 c.requires (told_yes c.blank.ensures c.if-not-blank.false) c.if-s-past-ne-LINE_FEED.false
