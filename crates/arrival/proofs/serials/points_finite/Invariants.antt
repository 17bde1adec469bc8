-- `arrival::serials::points_finite` meets its contract.
-- Assumes nothing.
use Prim.Native.Nat.{◌+◌, ◌*◌}
use Rattle.model.specs.Values.{finite}
use Rattle.inbox.specs.Inbox.{point_in}
use Rattle.arrival.proofs.Steps.{Passing}
use Rattle.arrival.proofs.serials.points_finite.Given as goal

abbrev pub invariant-loop-j : goal.invariant-loop-j
invariant-loop-j l =
    Passing (λ i. finite (point_in l.message (l.from + 24 * i))) l.j
