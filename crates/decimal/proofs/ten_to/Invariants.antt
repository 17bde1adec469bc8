-- `decimal::ten_to` meets its contract. The loop's invariant: the power is ten to the i, exactly. Assumes nothing.
use Rattle.std.proofs.Common.{◌^◌, ◌≤◌, false}
use lib.Ieee.Exact.{HasValue}
use Rattle.decimal.proofs.ten_to.Given as goal

abbrev pub invariant-loop-i : goal.invariant-loop-i
invariant-loop-i l =
    (l.i ≤ l.k) × (HasValue l.power false (10 ^ l.i) 1)
