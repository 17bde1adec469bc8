-- `parts::numbers::follows` meets its contract.
-- Assumes nothing.
use Rattle.parts.proofs.NumberLaws.{follows_not, follows_is}
use native.Mathlib.Omega.{arith}
use Rattle.parts.proofs.numbers.follows.Goals as goal

pub returns-then-b-a : goal.returns-then-b-a
returns-then-b-a c =
    follows_not c.args.a c.args.b c.if-b-a.true

pub returns : goal.returns
returns c =
    follows_is c.args.a c.args.b (omega arith)
