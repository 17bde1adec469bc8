use Rattle.answers.proofs.Questions.{said_no, said_yes}
use Rattle.outbox.proofs.Running.{tallied_start, tallied_few, tallied_step, tallied_skip}
use native.Mathlib.Omega.{arith}
use Rattle.outbox.proofs.parts.part4_count.Goals as goal
use Rattle.outbox.proofs.parts.part4_count.Goals.{then-critical_beside, else-critical_beside}

pub loop-f-init : goal.loop-f-init
loop-f-init c =
    tallied_start _ _

pub overflow_add-entries : goal.overflow_add-entries
overflow_add-entries c =
    omega (arith, tallied_few c.loop-f.invariant, c.loop-f-test.true, c.requires.1.few)

pub loop-f-preserved : goal.loop-f-preserved
loop-f-preserved c = elim c.if-critical_beside.branch [
  | then-critical_beside w ↦ rw w.entries-is (tallied_step c.loop-f.invariant c.loop-f-test.true (said_yes c.critical_beside.ensures w.if-critical_beside.true))
  | else-critical_beside w ↦ rw w.entries-is (tallied_skip c.loop-f.invariant c.loop-f-test.true (said_no c.critical_beside.ensures w.if-critical_beside.false))
]
