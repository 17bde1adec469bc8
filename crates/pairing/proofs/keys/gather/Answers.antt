use mathlib.Core.Path.{◌∙◌, sym}
use Rattle.pairing.proofs.InBlocks.{few}
use Rattle.mesh.proofs.Gathers.{gathering_none, gathering_more, gathering_room, gathering_end}
use Rattle.pairing.specs.Keys.{all_keys}
use Rattle.pairing.proofs.Steps.{all_none, all_more}
use Rattle.pairing.proofs.keys.gather.Goals as goal

pub loop-i-init : goal.loop-i-init
loop-i-init c =
    gathering_none (all_keys c.args.mesh.now) (all_none c.args.mesh.now) c.requires.1

pub put_part-c-requires : goal.put_part-c-requires
put_part-c-requires c =
    (c.requires.0, c.loop-i-test.true, gathering_room c.loop-i.invariant c.loop-i-test.true (few c.requires.0))

pub loop-i-preserved : goal.loop-i-preserved
loop-i-preserved c =
    gathering_more c.loop-i.invariant c.loop-i-test.true c.put_part-c.ensures.0 c.put_part-c.ensures.1 (all_more _ _)

pub shape_of-out : goal.shape_of-out
shape_of-out c =
    c.loop-i.invariant.len ∙ sym c.requires.1

pub returns : goal.returns
returns c =
    gathering_end c.loop-i.invariant c.loop-i-test.false (few c.requires.0)
