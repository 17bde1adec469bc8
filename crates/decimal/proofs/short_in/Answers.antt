-- `decimal::short_in` meets its contract. Assumes nothing.
use Rattle.decimal.proofs.Texts.{short_long, short_some}
use Rattle.decimal.proofs.short_in.Goals as goal

pub returns-then-text-gt2 : goal.returns-then-text-gt2
returns-then-text-gt2 c =
    short_long _ c.if-text-gt2.true

pub returns : goal.returns
returns c =
    short_some _ c.if-text-gt2.false c.number_in.ensures
