-- `corners::thousandths::size` meets its contract. Assumes nothing.
use Rattle.corners.specs.Thousandths.{digit_count}
use Rattle.corners.proofs.thousandths.size.Goals as goal

pub returns-then-x : goal.returns-then-x
unfolding digit_count
returns-then-x c =
    rw c.if-x.true

pub returns : goal.returns
unfolding digit_count
returns c =
    rw c.if-x.false
