-- `groups::read_coordinate` meets its contract. Eight bytes are there or not. Assumes nothing.
use native.Mathlib.Omega.{arith}
use Rattle.groups.proofs.Coordinates.{coordinate_short}
use Rattle.groups.proofs.read_coordinate.Goals as goal

pub returns-then-s-lt8 : goal.returns-then-s-lt8
returns-then-s-lt8 c =
    coordinate_short _ _ (omega arith)

pub returns-then-s-at : goal.returns-then-s-at
returns-then-s-at c =
    coordinate_short _ _ (omega arith)
