-- `outbox::parts::part4_count` meets its contract. The loop's invariant: the entries of the faces before f are counted.
-- Assumes nothing.
use Rattle.outbox.specs.Bytes.{in_part4}
use Rattle.outbox.proofs.Running.{Tallied}
use Rattle.outbox.proofs.parts.part4_count.Given as goal

abbrev pub invariant-loop-f : goal.invariant-loop-f
invariant-loop-f l =
    Tallied (in_part4 l.block l.to l.order l.starts) l.count l.f l.entries
