-- `oracle::not_above` meets its contract. Assumes nothing.
use mathlib.Core.Path.{refl}
use Rattle.model.specs.Balance.{le_point}
use Rattle.oracle.proofs.not_above.Goals as goal

pub returns : goal.returns
unfolding le_point
returns c =
    rw (c.at_most.ensures, c.at_most-2.ensures, c.at_most-3.ensures) refl
