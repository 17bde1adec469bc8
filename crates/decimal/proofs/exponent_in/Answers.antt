-- `decimal::exponent_in` meets its contract. Assumes nothing.
use Rattle.decimal.proofs.Texts.{exponent_none, exponent_some, exponent_wrong}
use Rattle.std.proofs.Common.{arith}
use Rattle.decimal.proofs.exponent_in.Goals as goal

pub returns-then-text-eq0 : goal.returns-then-text-eq0
returns-then-text-eq0 c =
    exponent_none _ c.if-text-eq0.true

pub returns-then-e : goal.returns-then-e
returns-then-e c =
    exponent_some c.args.text.now (omega arith) c.if-e.true c.signed_in.ensures

pub returns : goal.returns
returns c =
    exponent_wrong c.args.text.now (omega arith) c.if-e.false
