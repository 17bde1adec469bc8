-- `rounds::steps::redirect_all` meets its contract.
-- Assumes nothing.
use Rattle.rounds.proofs.Running.{Telling}
use Prim.Native.Nat.{◌-◌}
use lib.ListN.{length}
use Rattle.rounds.proofs.steps.redirect_all.Given as goal

abbrev pub invariant-loop-at : goal.invariant-loop-at
invariant-loop-at l =
    Telling l.viewers l.initial.mesh l.updates l.at l.ok l.mesh

abbrev pub decreases-loop-at : goal.decreases-loop-at
decreases-loop-at l =
    length l.updates - l.at
