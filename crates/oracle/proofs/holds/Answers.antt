-- `oracle::holds` meets its contract. Assumes nothing.
use mathlib.Core.Path.{refl}
use Rattle.oracle.proofs.holds.Goals as goal

pub returns-then-second : goal.returns-then-second
returns-then-second c =
    rw (c.in-Box.is, c.if-second.true) refl

pub returns-then-second-2 : goal.returns-then-second-2
returns-then-second-2 c =
    rw (c.in-Plane.is, c.if-second-2.true, c.below.ensures, c.coordinate-c.ensures) refl

pub returns-else-second : goal.returns-else-second
returns-else-second c =
    rw (c.in-Box.is, c.if-second.false, c.not_above.ensures, c.not_above-in-Box.ensures) refl

pub returns-else-second-2 : goal.returns-else-second-2
returns-else-second-2 c =
    rw (c.in-Plane.is, c.if-second-2.false, c.below-in-Plane.ensures, c.coordinate-c.ensures) refl
