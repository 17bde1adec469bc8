-- `readpages::third::read_critical` meets its contract: the word, the other block, a label and blanks to the last column.
-- Assumes nothing.
use Rattle.model.specs.Text.{bytes}
use Rattle.text.proofs.Readings.{told_no, told_yes}
use Rattle.readpages.proofs.ThirdTexts.{blank_no_digit, crit_word, other_ended, other_large, no_label, other_past, label_past, crit_other, crit_found}
use native.Mathlib.Omega.{arith}
use Rattle.readpages.proofs.third.read_critical.Goals as goal

pub returns-then-not-text_at : goal.returns-then-not-text_at
unfolding bytes
returns-then-not-text_at c =
    λ o l w. told_no c.text_at.ensures c.if-not-text_at.true (crit_word w)

pub number_before-requires : goal.number_before-requires
number_before-requires c =
    (omega (arith, c.requires), blank_no_digit)

pub returns-in_err-other : goal.returns-in_err-other
returns-in_err-other c =
    rw c.from_residual.ensures (
    λ o l w. (rw c.in_err-other.was at c.number_before.ensures) _ _ (other_ended w))

pub returns-then-other-ge-BLOCKS : goal.returns-then-other-ge-BLOCKS
returns-then-other-ge-BLOCKS c =
    other_large c.args.at (rw c.in_ok-other.was at c.number_before.ensures) c.if-other-ge-BLOCKS.true

pub read_label-requires : goal.read_label-requires
read_label-requires c =
    omega (arith, c.requires, other_past c.args.at (rw c.in_ok-other.was at c.number_before.ensures) (omega (arith, c.if-other-ge-BLOCKS.false)))

pub returns-in_err-code : goal.returns-in_err-code
returns-in_err-code c =
    rw c.from_residual-in_err-code.ensures (
    no_label c.args.at (rw c.in_ok-other.was at c.number_before.ensures) (rw c.in_err-code.was at c.read_label.ensures))

pub overflow_sub-at : goal.overflow_sub-at
overflow_sub-at c =
    omega
    (arith, label_past c.args.at (rw c.in_ok-other.was at c.number_before.ensures) (rw c.in_ok-code.was at c.read_label.ensures) (omega (arith, c.if-other-ge-BLOCKS.false)))

pub blank-requires : goal.blank-requires
blank-requires c =
    omega
    (arith, c.requires, label_past c.args.at (rw c.in_ok-other.was at c.number_before.ensures) (rw c.in_ok-code.was at c.read_label.ensures) (omega (arith, c.if-other-ge-BLOCKS.false)))

pub returns-then-not-blank : goal.returns-then-not-blank
returns-then-not-blank c =
    crit_other c.args.at (rw c.in_ok-other.was at c.number_before.ensures) (rw c.in_ok-code.was at c.read_label.ensures)
    (told_no c.blank.ensures c.if-not-blank.true)

pub returns : goal.returns
unfolding bytes
returns c =
    crit_found c.args.at (rw c.in_ok-other.was at c.number_before.ensures) (rw c.in_ok-code.was at c.read_label.ensures)
    (omega (arith, c.if-other-ge-BLOCKS.false)) (told_yes c.text_at.ensures c.if-not-text_at.false) (told_yes c.blank.ensures c.if-not-blank.false)
    c.critical_with.ensures
