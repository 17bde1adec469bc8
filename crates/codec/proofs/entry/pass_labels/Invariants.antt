-- `codec::entry::pass_labels` meets its contract. The loop's invariant: those before this turn are passed, up to `p`.
-- Assumes nothing.
use Prim.Native.Nat.{◌-◌}
use Rattle.model.specs.Messages.{label}
use Rattle.codec.proofs.Passing.{Passing}
use Rattle.codec.proofs.entry.pass_labels.Given as goal

abbrev pub invariant-loop : goal.invariant-loop
invariant-loop l =
    Passing label l.s l.at l.count (l.count - l.counter) l.p
