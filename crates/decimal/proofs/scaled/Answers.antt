-- `decimal::scaled` meets its contract. Assumes nothing.
use Rattle.decimal.proofs.Values.{scaled_up, scaled_down, scaled_far, near_sum}
use Rattle.std.proofs.Common.{arith}
use Rattle.decimal.proofs.scaled.Goals as goal

pub returns-then-places-k : goal.returns-then-places-k
returns-then-places-k c =
    scaled_far _ _ _ _ c.in-Down.is c.if-places-k.true

pub overflow_add-places : goal.overflow_add-places
overflow_add-places c =
    omega (arith, near_sum c.args.places c.in-Down.k c.if-places-k.false)

pub returns-in-Up : goal.returns-in-Up
returns-in-Up c =
    scaled_up _ _ _ _ c.in-Up.is c.nearest.ensures

pub returns-else-places-k : goal.returns-else-places-k
returns-else-places-k c =
    scaled_down _ _ _ _ c.in-Down.is c.nearest-in-Down.ensures
