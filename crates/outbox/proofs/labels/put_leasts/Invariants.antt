-- `outbox::labels::put_leasts` meets its contract. The loop's invariant: the labels of the faces before f are put, and there is room
-- for all. The measure is what is left of the faces. Assumes nothing.
use Rattle.outbox.proofs.Running.{Running}
use Rattle.outbox.specs.ByBlocks.{least_put}
use Rattle.outbox.proofs.labels.put_leasts.Given as goal

abbrev pub invariant-loop-f : goal.invariant-loop-f
invariant-loop-f l =
    Running (least_put l.block l.k l.order l.starts l.darts l.count) l.count l.initial.out l.from l.f l.out l.at
