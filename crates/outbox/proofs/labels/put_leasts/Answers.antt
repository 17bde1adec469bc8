use mathlib.Core.Path.{ap, sym, ◌∙◌}
use lib.ListN.{length}
use Rattle.codec.proofs.EntryLaws.{stored_as}
use Rattle.outbox.proofs.Running.{running_start, running_space, running_step, running_skip}
use Rattle.outbox.proofs.LeastLaws.{least_none, least_one, not_shared_by, shared_by}
use native.Mathlib.Omega.{arith}
use Rattle.outbox.proofs.labels.put_leasts.Goals as goal

pub loop-f-init : goal.loop-f-init
loop-f-init c =
    running_start _ _ _ _ c.requires.count_bound

pub loop-f-preserved-then-field-critical_with : goal.loop-f-preserved-then-field-critical_with
loop-f-preserved-then-field-critical_with c =
    let a = c.args in
    running_skip c.loop-f.invariant c.loop-f-test.true
    (least_none a.block.now a.k a.order.now a.starts.now a.darts a.count c.loop-f.f
    (not_shared_by a.block.now a.k a.order.now a.starts.now a.darts a.count c.loop-f.f c.field.ensures (λ i. c.if-field-critical_with.true (i ∙ sym c.critical_with.ensures))))

pub put_label-at-requires : goal.put_label-at-requires
put_label-at-requires c =
    let a = c.args in
    let one =
    least_one a.block.now a.k a.order.now a.starts.now a.darts a.count c.loop-f.f _ _
    (shared_by a.block.now a.k a.order.now a.starts.now a.darts a.count c.loop-f.f c.field.ensures (c.if-field-critical_with.false ∙ c.critical_with.ensures))
    c.face_end-end.ensures c.least_code-code.ensures in
    omega (arith, ap length one, running_space c.loop-f.invariant c.loop-f-test.true)

pub loop-f-preserved : goal.loop-f-preserved
loop-f-preserved c =
    let a = c.args in
    let one =
    least_one a.block.now a.k a.order.now a.starts.now a.darts a.count c.loop-f.f _ _
    (shared_by a.block.now a.k a.order.now a.starts.now a.darts a.count c.loop-f.f c.field.ensures (c.if-field-critical_with.false ∙ c.critical_with.ensures))
    c.face_end-end.ensures c.least_code-code.ensures in
    running_step c.loop-f.invariant c.loop-f-test.true (stored_as one c.put_label-at.ensures)
