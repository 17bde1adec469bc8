-- `balance::leaving::first_asked` meets its contract. The loop's invariant: the volumes before p may not go, and nothing is marked.
-- Assumes nothing.
use Rattle.model.specs.Image.{count_in}
use Rattle.balance.specs.Moves.{Asking, at}
use Rattle.balance.proofs.Strikes.{Trying, SameLengths}
use Rattle.balance.proofs.leaving.first_asked.Given as goal

abbrev pub invariant-loop-p : goal.invariant-loop-p
invariant-loop-p l =
    Trying (at l.initial.sizes) l.block l.left l.sizes l.p × Asking (count_in l.block) l.marks l.order l.starts l.seen l.numbers l.firsts l.colours
    × SameLengths l.sizes l.marks l.order l.starts l.seen l.numbers l.firsts l.colours l.initial.sizes l.initial.marks l.initial.order
    l.initial.starts l.initial.seen l.initial.numbers l.initial.firsts l.initial.colours
