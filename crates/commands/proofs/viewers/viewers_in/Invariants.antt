-- `commands::viewers::viewers_in` meets its contract. The loop's invariant: the viewers before block b are read, and what is left says the same. Assumes nothing.
use Rattle.commands.proofs.Viewing.{Viewing}
use Rattle.commands.proofs.viewers.viewers_in.Given as goal

abbrev pub invariant-loop-b : goal.invariant-loop-b
invariant-loop-b l =
    Viewing l.text l.bits l.at l.b
