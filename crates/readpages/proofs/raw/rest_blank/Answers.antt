use Rattle.text.proofs.Readings.{told_no, told_yes}
use Rattle.readpages.proofs.PageTexts.{row_within, rest_none, rest_more, rest_end, rest_not}
use native.Mathlib.Omega.{arith}
use Rattle.readpages.proofs.raw.rest_blank.Goals as goal

pub loop-i-init : goal.loop-i-init
loop-i-init c =
    (omega arith, omega (arith, c.requires.2), rest_none _ _)

pub row_place-requires : goal.row_place-requires
row_place-requires c =
    omega (arith, c.requires.0, c.loop-i-test.true)

pub blank_at-requires : goal.blank_at-requires
blank_at-requires c =
    omega (arith, c.requires.1, c.row_place.ensures, row_within _ _ c.loop-i-test.true)

pub returns-then-not-blank_at : goal.returns-then-not-blank_at
returns-then-not-blank_at c =
    rest_not _ _ _ _ c.loop-i.invariant.0 c.loop-i-test.true (told_no (rw c.row_place.ensures at c.blank_at.ensures) c.if-not-blank_at.true)

pub loop-i-preserved : goal.loop-i-preserved
loop-i-preserved c = (
  omega (arith, c.loop-i.invariant.0),
  omega (arith, c.loop-i-test.true),
  rest_more c.loop-i.invariant.2 (told_yes (rw c.row_place.ensures at c.blank_at.ensures) c.if-not-blank_at.false),
)

pub returns : goal.returns
returns c =
    rest_end c.loop-i.invariant.2 c.loop-i-test.false
