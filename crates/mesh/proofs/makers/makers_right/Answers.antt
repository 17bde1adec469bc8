use mathlib.Core.Path.{◌∙◌}
use Rattle.sound.proofs.Passes.{going_none, going_no, going_more, going_end}
use Rattle.mesh.proofs.Gathers.{roomy}
use Rattle.mesh.proofs.Made.{makers_are}
use Rattle.mesh.proofs.makers.makers_right.Goals as goal

pub loop-i-init : goal.loop-i-init
loop-i-init c =
    going_none _ _

pub made_part-requires : goal.made_part-requires
made_part-requires c =
    (c.loop-i-test.true, roomy c.args.mesh.now c.requires)

pub returns-then-not-made_part : goal.returns-then-not-made_part
returns-then-not-made_part c =
    going_no c.loop-i.invariant c.loop-i-test.true c.made_part.ensures c.if-not-made_part.true ∙ makers_are c.args.mesh.now

pub loop-i-preserved : goal.loop-i-preserved
loop-i-preserved c =
    going_more c.loop-i.invariant c.loop-i-test.true c.made_part.ensures c.if-not-made_part.false

pub returns : goal.returns
returns c =
    going_end c.loop-i.invariant c.loop-i-test.false ∙ makers_are c.args.mesh.now
