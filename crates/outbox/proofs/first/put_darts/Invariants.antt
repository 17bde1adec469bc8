-- `outbox::first::put_darts` meets its contract. The loop's invariant: the darts before k are put.
-- The measure is what is left of the face. Assumes nothing.
use Rattle.outbox.specs.Bytes.{dart_put}
use Rattle.outbox.proofs.Running.{Running}
use Rattle.outbox.proofs.first.put_darts.Given as goal

abbrev pub invariant-loop-k : goal.invariant-loop-k
invariant-loop-k l =
    Running (dart_put l.block l.numbers l.order l.first) l.size l.initial.out l.from l.k l.out l.at
