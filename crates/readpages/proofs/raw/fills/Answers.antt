-- `readpages::raw::fills` meets its contract. Assumes nothing.
use Rattle.readpages.proofs.PageTexts.{fills_one, fills_more}
use Rattle.readpages.proofs.raw.fills.Goals as goal

pub returns-then-total-eq1 : goal.returns-then-total-eq1
returns-then-total-eq1 c =
    fills_one _ _ c.if-total-eq1.true c.requires.2

pub returns : goal.returns
returns c =
    fills_more _ _ c.if-total-eq1.false c.requires.0 c.requires.2
