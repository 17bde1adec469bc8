use Rattle.theory.proofs.TextLaws.{decimal_ten}
use Rattle.listing.proofs.Digits.{count_start, count_more, count_end}
use native.Mathlib.Omega.{arith}
use Rattle.listing.proofs.text.digit_count.Goals as goal

pub loop-x-init : goal.loop-x-init
loop-x-init c =
    count_start _ c.requires

pub overflow_add-n : goal.overflow_add-n
overflow_add-n c =
    omega (arith, c.loop-x.invariant.total, decimal_ten c.args.v c.requires)

pub loop-x-preserved : goal.loop-x-preserved
loop-x-preserved c =
    count_more c.loop-x.invariant c.loop-x-test.true

pub returns : goal.returns
returns c =
    count_end c.loop-x.invariant c.loop-x-test.false
