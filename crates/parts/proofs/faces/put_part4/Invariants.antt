-- `parts::faces::put_part4` meets its contract.
-- Assumes nothing.
use Prim.Native.Nat.{◌+◌, ◌*◌, ◌≤◌}
use lib.ListN.{get_or}
use Rattle.parts.specs.Faces.{Faced, code_at}
use Rattle.parts.proofs.faces.put_part4.Given as goal

abbrev pub invariant-loop-e : goal.invariant-loop-e
invariant-loop-e l =
    Faced l.sizes l.indices l.e (λ d j. 2 + 4 * get_or l.others d 0) l.initial.kinds l.kinds
    × Faced l.sizes l.indices l.e (λ d. code_at l.message (get_or l.places d 0) (get_or l.sizes (get_or l.indices d 0) 0)) l.initial.links l.links ×
    (l.e ≤ l.c)
