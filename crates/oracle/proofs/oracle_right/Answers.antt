-- `oracle::oracle_right` meets its contract. Assumes nothing.
use mathlib.Core.Path.{refl}
use Rattle.model.specs.Balance.{oracle_right}
use Rattle.oracle.proofs.oracle_right.Goals as goal

pub returns-in-Every : goal.returns-in-Every
unfolding oracle_right
returns-in-Every c =
    rw c.in-Every.is refl

pub returns-in-Box : goal.returns-in-Box
unfolding oracle_right
returns-in-Box c =
    rw (c.in-Box.is, c.finite_point.ensures, c.finite_point-in-Box.ensures, c.not_above.ensures) refl

pub returns-in-Plane : goal.returns-in-Plane
unfolding oracle_right
returns-in-Plane c =
    rw (c.in-Plane.is, c.is_finite.ensures) refl
