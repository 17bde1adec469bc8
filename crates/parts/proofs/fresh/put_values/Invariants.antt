-- `parts::fresh::put_values` meets its contract.
-- Assumes nothing.
use mathlib.Core.Path.{◌≡◌}
use lib.ListN.{length}
use Rattle.parts.specs.Fresh.{fresh_at}
use Rattle.parts.proofs.FreshSteps.{Valued}
use Rattle.parts.proofs.fresh.put_values.Given as goal

abbrev pub invariant-loop-q : goal.invariant-loop-q
invariant-loop-q l =
    Valued (fresh_at l.kinds l.links) l.k l.values l.q × (length l.values ≡ length l.initial.values)
