-- `outbox::first::put_faces` meets its contract. The loop's invariant: the faces before f are put.
-- The measure is what is left of the faces. Assumes nothing.
use Rattle.outbox.specs.Bytes.{faces_put}
use Rattle.outbox.proofs.Running.{Running}
use Rattle.outbox.proofs.first.put_faces.Given as goal

abbrev pub invariant-loop-f : goal.invariant-loop-f
invariant-loop-f l =
    Running (faces_put l.block l.numbers l.order l.starts l.darts l.count) l.count l.initial.out l.from l.f l.out l.at
