-- `text::digit` meets its contract. Assumes nothing.
use Rattle.text.proofs.Readings.{digit_low, digit_high}
use native.Mathlib.Omega.{arith}
use Rattle.text.proofs.digit.Goals as goal

pub overflow_sub-c : goal.overflow_sub-c
overflow_sub-c c =
    omega (arith, digit_low _ c.requires)

pub returns : goal.returns
returns c =
    omega (arith, c.from.ensures, digit_low _ c.requires, digit_high _ c.requires)
