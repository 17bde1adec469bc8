use mathlib.Core.Path.{◌≡◌, refl, sym, ◌∙◌}
use Rattle.text.proofs.Readings.{digits_none, digits_more, too_large}
use native.Mathlib.Omega.{arith}
use Rattle.text.proofs.digits.Goals as goal

pub loop-i-init : goal.loop-i-init
loop-i-init c =
    (omega arith, digits_none _ _)

pub returns-then-not-is_digit : goal.returns-then-not-is_digit
returns-then-not-is_digit c =
    record {
      count = _;
      within = c.loop-i.invariant.0;
      past_is = refl;
      digits = c.loop-i.invariant.1;
      ended = λ h. sym c.is_digit.ensures ∙ c.if-not-is_digit.true;
    }

pub digit-requires : goal.digit-requires
digit-requires c =
    sym c.is_digit.ensures ∙ c.if-not-is_digit.false

pub returns-then-w-ge-NUMBERS : goal.returns-then-w-ge-NUMBERS
returns-then-w-ge-NUMBERS c =
    too_large c.loop-i.invariant.1 c.loop-i-test.true c.requires (sym c.is_digit.ensures ∙ c.if-not-is_digit.false)
    (omega (arith, c.digit.ensures.0, c.if-w-ge-NUMBERS.true))

pub loop-i-preserved : goal.loop-i-preserved
loop-i-preserved c = (
  omega arith,
  digits_more c.loop-i.invariant.1 (omega (arith, c.requires, c.loop-i-test.true)) (sym c.is_digit.ensures ∙ c.if-not-is_digit.false)
      (omega (arith, c.digit.ensures.0)) (omega (arith, c.if-w-ge-NUMBERS.false)),
)

pub returns : goal.returns
returns c =
    let n : c.loop-i.i ≡ c.args.n = omega (arith, c.loop-i.invariant.0, c.loop-i-test.false) in
    record {
      count = _;
      within = omega arith;
      past_is = refl;
      digits = rw n at c.loop-i.invariant.1;
      ended = λ h. absurd (omega (arith, h));
    }
