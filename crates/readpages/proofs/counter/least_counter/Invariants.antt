-- `readpages::counter::least_counter` meets its contract. The loop's invariant: the counter is the least above the labels of the darts from i on.
-- Assumes nothing.
use Rattle.readpages.proofs.Counting.{Above}
use Rattle.readpages.proofs.counter.least_counter.Given as goal

abbrev pub invariant-loop-i : goal.invariant-loop-i
invariant-loop-i l =
    Above l.block l.n l.me l.c l.i
