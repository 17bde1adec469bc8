-- `parts::fresh::all_clear` meets its contract.
-- Assumes nothing.
use Rattle.model.specs.Lists.{tab}
use Rattle.ranking.specs.Ranks.{value_at}
use Rattle.parts.specs.Fresh.{clear_at}
use Rattle.arrival.proofs.Steps.{Passing}
use Rattle.parts.proofs.fresh.all_clear.Given as goal

abbrev pub invariant-loop-p : goal.invariant-loop-p
invariant-loop-p l =
    Passing (clear_at l.block (tab (value_at l.keys) l.k)) l.p
