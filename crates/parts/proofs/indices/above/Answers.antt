-- `parts::indices::above` meets its contract.
-- Assumes nothing.
use Rattle.parts.proofs.IndexLaws.{above_first, above_later}
use Rattle.parts.proofs.indices.above.Goals as goal

pub returns-then-e-eq0 : goal.returns-then-e-eq0
returns-then-e-eq0 c =
    above_first c.args.indices.now c.args.e c.if-e-eq0.true

pub returns : goal.returns
returns c =
    above_later c.args.indices.now c.args.e c.if-e-eq0.false c.entry_index-before.ensures c.entry_index-here.ensures
