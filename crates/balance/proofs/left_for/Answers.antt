-- `balance::left_for` meets its contract. Assumes nothing.
use Rattle.balance.proofs.MovesLaws.{left_none, left_some}
use Rattle.balance.proofs.left_for.Goals as goal

pub returns-then-there-count : goal.returns-then-there-count
returns-then-there-count c =
    left_none c.args.viewers c.args.mesh.now c.args.d c.args.to _ _ c.among-from.ensures c.among-there.ensures c.if-there-count.true

pub returns : goal.returns
returns c =
    left_some c.args.viewers c.args.mesh.now c.args.d c.args.to _ _ c.among-from.ensures c.among-there.ensures c.lesser-most.ensures c.lesser.ensures
