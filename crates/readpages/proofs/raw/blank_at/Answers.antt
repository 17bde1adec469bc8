-- `readpages::raw::blank_at` meets its contract. Assumes nothing.
use Rattle.text.proofs.Readings.{told_no, told_yes}
use Rattle.readpages.proofs.PageTexts.{blank_not, blank_made}
use native.Mathlib.Omega.{arith}
use Rattle.readpages.proofs.raw.blank_at.Goals as goal

pub returns-then-not-blank : goal.returns-then-not-blank
returns-then-not-blank c =
    blank_not (told_no c.blank.ensures c.if-not-blank.true)

pub returns : goal.returns
returns c =
    blank_made (told_yes c.blank.ensures c.if-not-blank.false) (omega (arith, c.requires))
