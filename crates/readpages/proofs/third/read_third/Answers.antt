-- `readpages::third::read_third` meets its contract: its first letter tells which of the three it may be.
-- Assumes nothing.
use Rattle.model.specs.Text.{bytes}
use Rattle.text.proofs.Readings.{told_no, told_yes}
use Rattle.readpages.proofs.ThirdTexts.{by_critical, only_sewn, sewn_link, only_free, free_text, free_blanks, free_found}
use Rattle.readpages.proofs.third.read_third.Goals as goal

pub returns-then-s-at-eq99 : goal.returns-then-s-at-eq99
returns-then-s-at-eq99 c =
    by_critical c.args.s.now c.args.at c.read_critical.result c.if-s-at-eq99.true c.read_critical.ensures

pub returns-in_err-serial : goal.returns-in_err-serial
returns-in_err-serial c =
    rw c.from_residual.ensures (
    only_sewn c.if-s-at-eq115.true (rw c.in_err-serial.was at c.read_sewn.ensures))

pub returns-then-s-at-eq115 : goal.returns-then-s-at-eq115
returns-then-s-at-eq115 c =
    sewn_link (rw c.in_ok-serial.was at c.read_sewn.ensures)

pub returns-then-not-text_at : goal.returns-then-not-text_at
unfolding bytes
returns-then-not-text_at c =
    only_free c.if-s-at-eq99.false c.if-s-at-eq115.false (λ w. told_no c.text_at.ensures c.if-not-text_at.true (free_text w))

pub returns-then-not-blank : goal.returns-then-not-blank
returns-then-not-blank c =
    only_free c.if-s-at-eq99.false c.if-s-at-eq115.false (λ w. told_no c.blank.ensures c.if-not-blank.true (free_blanks w))

pub returns : goal.returns
unfolding bytes
returns c =
    free_found (told_yes c.text_at.ensures c.if-not-text_at.false) (told_yes c.blank.ensures c.if-not-blank.false)
