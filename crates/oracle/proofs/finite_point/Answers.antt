-- `oracle::finite_point` meets its contract. Assumes nothing.
use mathlib.Core.Path.{refl}
use Rattle.model.specs.Values.{finite}
use Rattle.oracle.proofs.finite_point.Goals as goal

pub returns : goal.returns
unfolding finite
returns c =
    rw (c.is_finite.ensures, c.is_finite-2.ensures, c.is_finite-3.ensures) refl
