-- `corners::thousandths::in_thousandths` meets its contract. Assumes nothing.
use Rattle.std.proofs.Common.{T, sym, subst}
use lib.Ieee.{of_bits, neg}
use Rattle.corners.proofs.ThousandthLaws.{far_low, far_high, far_many, are}
use Rattle.corners.proofs.thousandths.in_thousandths.Goals as goal

pub truncating_f64_to_u64-n-requires : goal.truncating_f64_to_u64-n-requires
unfolding of_bits neg
truncating_f64_to_u64-n-requires c =
    record { lower_bound = subst T (sym c.if-y.true) tt; upper_bound = subst T (sym c.if-y-2.true) tt }

pub returns-then-n-le1000000000000 : goal.returns-then-n-le1000000000000
returns-then-n-le1000000000000 c =
    are c.args.x c.size.ensures c.if-y.true c.if-y-2.true c.truncating_f64_to_u64-n.ensures c.if-n-le1000000000000.true

pub returns-else-n-le1000000000000 : goal.returns-else-n-le1000000000000
returns-else-n-le1000000000000 c =
    far_many c.args.x c.size.ensures c.if-y.true c.if-y-2.true c.truncating_f64_to_u64-n.ensures c.if-n-le1000000000000.false

pub returns-else-y-2 : goal.returns-else-y-2
returns-else-y-2 c =
    far_high c.args.x c.size.ensures c.if-y.true c.if-y-2.false

pub returns-else-y : goal.returns-else-y
returns-else-y c =
    far_low c.args.x c.size.ensures c.if-y.false
