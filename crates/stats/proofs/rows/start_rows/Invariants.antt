-- `stats::rows::start_rows` meets its contract. The loop's invariant (`Heading`): the words before i are started, the others as they were.
-- Assumes nothing.
use Prim.Native.Nat.{◌≤◌}
use Rattle.stats.proofs.CountLaws.{Heading}
use Rattle.stats.proofs.rows.start_rows.Given as goal

abbrev pub invariant-loop-i : goal.invariant-loop-i
invariant-loop-i l =
    (l.i ≤ l.end) × Heading l.block l.firsts l.i l.initial.rows l.rows
