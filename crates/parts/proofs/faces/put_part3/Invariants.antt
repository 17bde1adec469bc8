-- `parts::faces::put_part3` meets its contract.
-- Assumes nothing.
use Prim.Native.Nat.{◌+◌, ◌*◌, ◌≤◌}
use Rattle.parts.specs.Faces.{Faced, numbered_code}
use Rattle.parts.proofs.faces.put_part3.Given as goal

abbrev pub invariant-loop-e : goal.invariant-loop-e
invariant-loop-e l =
    Faced l.sizes l.indices l.e (λ d j. 2 + 4 * l.from) l.initial.kinds l.kinds × Faced l.sizes l.indices l.e (numbered_code l.from l.numbers)
    l.initial.links l.links × (l.e ≤ l.c)
