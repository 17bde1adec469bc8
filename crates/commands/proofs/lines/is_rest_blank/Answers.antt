-- `commands::lines::is_rest_blank` meets its contract. Assumes nothing.
use Rattle.commands.proofs.Fields.{blank_past, blank_is}
use Rattle.commands.proofs.lines.is_rest_blank.Goals as goal

pub returns-then-line-at : goal.returns-then-line-at
returns-then-line-at c =
    blank_past _ _ c.if-line-at.true

pub returns : goal.returns
returns c =
    blank_is c.args.line.now c.args.at c.leading.result c.leading.ensures.count
