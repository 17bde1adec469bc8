-- `readpages::third::read_sewn` meets its contract: the word, a number and blanks to the last column.
-- Assumes nothing.
use Rattle.model.specs.Text.{bytes}
use Rattle.text.proofs.Readings.{told_no, told_yes}
use Rattle.readpages.proofs.ThirdTexts.{blank_no_digit, sewn_text, sewn_ended, sewn_past, sewn_other, sewn_found}
use native.Mathlib.Omega.{arith}
use Rattle.readpages.proofs.third.read_sewn.Goals as goal

pub returns-then-not-text_at : goal.returns-then-not-text_at
unfolding bytes
returns-then-not-text_at c =
    λ v w. told_no c.text_at.ensures c.if-not-text_at.true (sewn_text w)

pub number_before-requires : goal.number_before-requires
number_before-requires c =
    (omega (arith, c.requires), blank_no_digit)

pub returns-in_err-serial : goal.returns-in_err-serial
returns-in_err-serial c =
    rw c.from_residual.ensures (
    λ v w. (rw c.in_err-serial.was at c.number_before.ensures) _ _ (sewn_ended w))

pub overflow_sub-at : goal.overflow_sub-at
overflow_sub-at c =
    omega (arith, sewn_past c.args.at (rw c.in_ok-serial.was at c.number_before.ensures))

pub blank-requires : goal.blank-requires
blank-requires c =
    omega (arith, c.requires, sewn_past c.args.at (rw c.in_ok-serial.was at c.number_before.ensures))

pub returns-then-not-blank : goal.returns-then-not-blank
returns-then-not-blank c =
    sewn_other c.args.at (rw c.in_ok-serial.was at c.number_before.ensures) (told_no c.blank.ensures c.if-not-blank.true)

pub returns : goal.returns
unfolding bytes
returns c =
    sewn_found c.args.at (rw c.in_ok-serial.was at c.number_before.ensures) (told_yes c.text_at.ensures c.if-not-text_at.false)
    (told_yes c.blank.ensures c.if-not-blank.false)
