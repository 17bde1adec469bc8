-- `outbox::parts::put_labels` meets its contract. The loop's invariant: the labels before k are put.
-- The measure is what is left of the face. Assumes nothing.
use Rattle.outbox.specs.Bytes.{label_put}
use Rattle.outbox.proofs.Running.{Running}
use Rattle.outbox.proofs.parts.put_labels.Given as goal

abbrev pub invariant-loop-k : goal.invariant-loop-k
invariant-loop-k l =
    Running (label_put l.block l.order l.first) l.size l.initial.out l.from l.k l.out l.at
