-- `outbox::first::put_points` meets its contract. The loop's invariant: the points before k are put.
-- The measure is what is left of the vertices. Assumes nothing.
use Rattle.outbox.specs.Bytes.{point_put}
use Rattle.outbox.proofs.Running.{Running}
use Rattle.outbox.proofs.first.put_points.Given as goal

abbrev pub invariant-loop-k : goal.invariant-loop-k
invariant-loop-k l =
    Running (point_put l.block l.firsts) l.count l.initial.out l.from l.k l.out l.at
