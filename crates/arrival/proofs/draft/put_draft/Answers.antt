use mathlib.Core.Path.{refl}
use Rattle.arrival.proofs.Drafting.{drafting_none, drafting_more, drafting_all}
use native.Mathlib.Omega.{arith}
use Rattle.arrival.proofs.draft.put_draft.Goals as goal

pub loop-p-init : goal.loop-p-init
loop-p-init c =
    (drafting_none _ _ c.requires.k_in_bounds.6, refl)

pub loop-p-preserved : goal.loop-p-preserved
loop-p-preserved c = (
  drafting_more c.loop-p.invariant.0 (omega arith) c.record_of-r.ensures c.put_record.ensures,
  omega (arith, c.put_record.auto.block, c.loop-p.invariant.1),
)

pub returns : goal.returns
returns c =
    drafting_all c.loop-p.invariant.0 (omega arith) c.set_count.ensures
