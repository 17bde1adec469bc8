-- `decimal::joined` meets its contract. Assumes nothing.
use Rattle.std.proofs.Common.{sym}
use Rattle.decimal.proofs.Texts.{capped_small, capped_large}
use Rattle.decimal.proofs.joined.Goals as goal

pub returns-then-v-lt1000000000000000 : goal.returns-then-v-lt1000000000000000
returns-then-v-lt1000000000000000 c =
    sym (capped_small _ c.if-v-lt1000000000000000.true)

pub returns : goal.returns
returns c =
    sym (capped_large _ c.if-v-lt1000000000000000.false)
