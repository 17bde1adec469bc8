use mathlib.Core.Path.{◌∙◌, sym}
use Rattle.mesh.proofs.Gathers.{gathering_none, gathering_more, gathering_room, gathering_end, gathered_none, gathered_more}
use Rattle.mesh.specs.Parts.{gathered}
use Rattle.mesh.proofs.serials.gather.Goals as goal

pub loop-i-init : goal.loop-i-init
loop-i-init c =
    gathering_none (gathered c.args.mesh.now) (gathered_none c.args.mesh.now) c.requires.2

pub put_part-c-requires : goal.put_part-c-requires
put_part-c-requires c =
    (c.loop-i-test.true, c.requires.1, gathering_room c.loop-i.invariant c.loop-i-test.true c.requires.0)

pub loop-i-preserved : goal.loop-i-preserved
loop-i-preserved c =
    gathering_more c.loop-i.invariant c.loop-i-test.true c.put_part-c.ensures.0 c.put_part-c.ensures.1 (gathered_more _ _)

pub shape_of-out : goal.shape_of-out
shape_of-out c =
    c.loop-i.invariant.len ∙ sym c.requires.2

pub returns : goal.returns
returns c =
    gathering_end c.loop-i.invariant c.loop-i-test.false c.requires.0
