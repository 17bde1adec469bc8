-- `decimal::decimal_in` meets its contract. Assumes nothing.
use Rattle.decimal.proofs.Values.{decimal_none, decimal_minus, decimal_plus}
use Rattle.std.proofs.Common.{arith}
use Rattle.decimal.proofs.decimal_in.Goals as goal

pub returns-then-text-eq0 : goal.returns-then-text-eq0
returns-then-text-eq0 c =
    decimal_none _ c.if-text-eq0.true

pub returns-then-text-eq45 : goal.returns-then-text-eq45
returns-then-text-eq45 c =
    decimal_minus c.args.text.now (omega arith) c.if-text-eq45.true c.unsigned.ensures

pub returns : goal.returns
returns c =
    decimal_plus c.args.text.now (omega arith) c.if-text-eq45.false c.unsigned-2.ensures
