-- `parts::faces::put_codes` meets its contract.
-- Assumes nothing.
use Rattle.parts.proofs.Writing.{Coding}
use Rattle.parts.proofs.faces.put_codes.Given as goal

abbrev pub invariant-loop-j : goal.invariant-loop-j
invariant-loop-j l =
    Coding l.message l.from l.n l.first l.initial.array l.array l.j l.p
