-- `rounds::list::play_all` meets its contract. The loop's invariant: the requests before i are played, and their outcomes written. Assumes nothing.
use Rattle.rounds.proofs.Requests.{Playing}
use Rattle.rounds.proofs.list.play_all.Given as goal

abbrev pub invariant-loop-i : goal.invariant-loop-i
invariant-loop-i l = Playing l.viewers l.initial.mesh l.requests l.initial.outcomes l.initial.outbox l.i l.mesh l.outcomes l.outbox
