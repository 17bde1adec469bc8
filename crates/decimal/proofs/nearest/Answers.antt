-- `decimal::nearest` meets its contract. Assumes nothing.
use Rattle.decimal.proofs.Values.{nearest_large, nearest_far_up, nearest_far_down, nearest_up, nearest_down}
use Rattle.std.proofs.Common.{arith}
use Rattle.decimal.proofs.nearest.Goals as goal

pub returns-then-m-ge1000000000000000 : goal.returns-then-m-ge1000000000000000
returns-then-m-ge1000000000000000 c =
    nearest_large _ _ _ _ c.if-m-ge1000000000000000.true

pub returns-then-k-gt22 : goal.returns-then-k-gt22
returns-then-k-gt22 c =
    nearest_far_up _ _ _ _ c.if-k-gt22.true

pub returns-then-down-up : goal.returns-then-down-up
returns-then-down-up c =
    nearest_up c.args.minus c.args.m c.args.up c.args.down (omega arith) (omega arith) (omega arith) c.times.ensures c.signed.ensures

pub returns-then-k-gt22-2 : goal.returns-then-k-gt22-2
returns-then-k-gt22-2 c =
    nearest_far_down _ _ _ _ c.if-k-gt22-2.true

pub returns : goal.returns
returns c =
    nearest_down c.args.minus c.args.m c.args.up c.args.down (omega arith) (omega arith) (omega arith) c.over.ensures c.signed-2.ensures
