use mathlib.Core.Path.{refl, ◌∙◌}
use lib.ListN.{length-set}
use Rattle.parts.proofs.FreshSteps.{valued_none, valued_more, valued_all}
use native.Mathlib.Omega.{arith}
use Rattle.parts.proofs.fresh.put_values.Goals as goal

pub loop-q-init : goal.loop-q-init
loop-q-init c =
    (valued_none _ _ c.requires.2, refl)

pub bounds-values-q : goal.bounds-values-q
bounds-values-q c =
    let n = c.loop-q.invariant.0.len in
    omega arith

pub loop-q-preserved : goal.loop-q-preserved
loop-q-preserved c =
    (valued_more c.loop-q.invariant.0 (omega arith) c.fresh_value.ensures, length-set c.loop-q.values _ _ ∙ c.loop-q.invariant.1)

pub shape_of-values : goal.shape_of-values
shape_of-values c =
    c.loop-q.invariant.1

pub returns : goal.returns
returns c =
    valued_all _ _ c.loop-q.invariant.0 (omega arith)
