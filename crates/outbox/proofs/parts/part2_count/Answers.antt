use Rattle.answers.proofs.Questions.{said_no, said_yes}
use Rattle.outbox.proofs.Running.{tallied_start, tallied_few, tallied_step, tallied_skip}
use native.Mathlib.Omega.{arith}
use Rattle.outbox.proofs.parts.part2_count.Goals as goal
use Rattle.outbox.proofs.parts.part2_count.Goals.{then-critical_with, else-critical_with}

pub loop-f-init : goal.loop-f-init
loop-f-init c =
    tallied_start _ _

pub overflow_add-entries : goal.overflow_add-entries
overflow_add-entries c =
    omega (arith, tallied_few c.loop-f.invariant, c.loop-f-test.true, c.requires.1.few)

pub loop-f-preserved : goal.loop-f-preserved
loop-f-preserved c = elim c.if-critical_with.branch [
  | then-critical_with w ↦ rw w.entries-is (tallied_step c.loop-f.invariant c.loop-f-test.true (said_yes c.critical_with.ensures w.if-critical_with.true))
  | else-critical_with w ↦ rw w.entries-is (tallied_skip c.loop-f.invariant c.loop-f-test.true (said_no c.critical_with.ensures w.if-critical_with.false))
]
