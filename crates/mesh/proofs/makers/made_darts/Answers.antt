use Rattle.sound.proofs.Passes.{going_none, going_no, going_more, going_end}
use Rattle.mesh.proofs.Made.{made_at}
use Rattle.mesh.proofs.makers.made_darts.Goals as goal

pub loop-p-init : goal.loop-p-init
loop-p-init c =
    going_none _ _

pub returns-then-not-made : goal.returns-then-not-made
returns-then-not-made c =
    let mesh = c.args.mesh.now in
    let block = c.args.block.now in
    going_no c.loop-p.invariant c.loop-p-test.true (made_at mesh block c.loop-p.p c.field-kind.ensures c.field-link.ensures c.made.ensures)
    c.if-not-made.true

pub loop-p-preserved : goal.loop-p-preserved
loop-p-preserved c =
    let mesh = c.args.mesh.now in
    let block = c.args.block.now in
    going_more c.loop-p.invariant c.loop-p-test.true (made_at mesh block c.loop-p.p c.field-kind.ensures c.field-link.ensures c.made.ensures)
    c.if-not-made.false

pub returns : goal.returns
returns c =
    going_end c.loop-p.invariant c.loop-p-test.false
