-- `outbox::updates::put_updates` meets its contract. The loop's invariant: the messages before block k are put.
-- The measure is what is left of the blocks. Assumes nothing.
use Rattle.outbox.proofs.Running.{Running}
use Rattle.outbox.specs.ByBlocks.{told_put}
use Rattle.outbox.proofs.updates.put_updates.Given as goal

abbrev pub invariant-loop-k : goal.invariant-loop-k
invariant-loop-k l =
    Running (told_put l.block l.to l.order l.starts l.darts l.faces) 16 l.initial.out 0 l.k l.out l.at
