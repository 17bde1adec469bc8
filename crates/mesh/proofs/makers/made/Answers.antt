-- `mesh::makers::made` meets its contract.
-- Assumes nothing.
use Rattle.mesh.proofs.Made.{asked_both, made_easy, made_unknown, made_known}
use Rattle.mesh.proofs.makers.made.Goals as goal

pub returns-then-is_free-is_sewn : goal.returns-then-is_free-is_sewn
returns-then-is_free-is_sewn c =
    made_easy c.args.mesh.now c.args.kind c.args.link (asked_both c.args.kind c.is_free.ensures c.is_sewn.ensures c.if-is_free-is_sewn.true)

pub returns-then-mesh-maker : goal.returns-then-mesh-maker
returns-then-mesh-maker c =
    let labelled = asked_both c.args.kind c.is_free.ensures c.is_sewn.ensures c.if-is_free-is_sewn.false in
    made_unknown c.args.mesh.now c.args.kind c.args.link labelled c.if-mesh-maker.true

pub returns : goal.returns
returns c =
    let labelled = asked_both c.args.kind c.is_free.ensures c.is_sewn.ensures c.if-is_free-is_sewn.false in
    made_known c.args.mesh.now c.args.kind c.args.link labelled c.if-mesh-maker.false
