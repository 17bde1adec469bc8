-- `outbox::parts::put_part3s` meets its contract. The loop's invariant: the entries of the faces before f are put, there is room for all,
-- and the next number. The measure is what is left of the faces. Assumes nothing.
use mathlib.Core.Path.{◌≡◌}
use Prim.Native.Nat.{◌+◌}
use Rattle.outbox.specs.Runs.{tally}
use Rattle.outbox.specs.Bytes.{in_part3, part3_put}
use Rattle.outbox.proofs.Running.{Running}
use Rattle.outbox.proofs.parts.put_part3s.Given as goal

abbrev pub invariant-loop-f : goal.invariant-loop-f
invariant-loop-f l =
    Running (part3_put l.block l.marks l.counter l.order l.starts) l.count l.initial.out l.from l.f l.out l.at ×
    (l.number ≡ l.counter + tally (in_part3 l.block l.marks l.order l.starts) l.f)
