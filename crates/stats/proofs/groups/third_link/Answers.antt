-- `stats::groups::third_link` meets its contract. Assumes nothing.
use Rattle.stats.proofs.GroupLaws.{third_taken, third_left}
use Rattle.stats.proofs.groups.third_link.Goals as goal

pub returns-then-third-is_sewn : goal.returns-then-third-is_sewn
returns-then-third-is_sewn c =
    third_taken c.args.third c.args.block.now c.args.p.0 c.field.ensures c.is_sewn.ensures c.field-then-third-is_sewn.ensures c.if-third-is_sewn.true

pub returns : goal.returns
returns c =
    third_left c.args.third c.args.block.now c.args.p.0 c.field.ensures c.is_sewn.ensures c.if-third-is_sewn.false
