-- `outbox::parts::put_part4s` meets its contract. The loop's invariant: the entries of the faces before f are put, and there is room
-- for all. The measure is what is left of the faces. Assumes nothing.
use Rattle.outbox.specs.Bytes.{part4_put}
use Rattle.outbox.proofs.Running.{Running}
use Rattle.outbox.proofs.parts.put_part4s.Given as goal

abbrev pub invariant-loop-f : goal.invariant-loop-f
invariant-loop-f l =
    Running (part4_put l.block l.to l.order l.starts l.darts l.count) l.count l.initial.out l.from l.f l.out l.at
