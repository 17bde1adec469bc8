use Rattle.mesh.proofs.Gathers.{putting_none, putting_more, putting_end}
use mathlib.Core.Path.{refl}
use Rattle.mesh.proofs.serials.put_serials.Goals as goal

pub loop-i-init : goal.loop-i-init
loop-i-init c =
    putting_none _ _ _

pub loop-i-preserved : goal.loop-i-preserved
loop-i-preserved c =
    putting_more c.loop-i.invariant c.loop-i-test.true c.requires.1 c.field.ensures

pub shape_of-out : goal.shape_of-out
shape_of-out c =
    c.loop-i.invariant.len

pub returns : goal.returns
returns c =
    (refl, putting_end c.loop-i.invariant c.loop-i-test.false)
