-- `commands::words::digit` meets its contract. Assumes nothing.
use Rattle.commands.proofs.Scans.{digit_from, digit_to}
use native.Mathlib.Omega.{arith}
use Rattle.commands.proofs.words.digit.Goals as goal

pub overflow_sub-b : goal.overflow_sub-b
overflow_sub-b c =
    omega (arith, digit_from _ c.requires)

pub returns : goal.returns
returns c =
    omega (arith, c.from.ensures, digit_from _ c.requires, digit_to _ c.requires)
