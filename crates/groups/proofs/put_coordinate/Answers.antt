-- `groups::put_coordinate` meets its contract. Assumes nothing.
use mathlib.Core.Path.{sym}
use native.Mathlib.Omega.{arith}
use Rattle.groups.proofs.Coordinates.{coordinate_length}
use Rattle.groups.proofs.Writing.{stored_outside}
use Rattle.groups.proofs.put_coordinate.Goals as goal

pub returns-then-out-eq0 : goal.returns-then-out-eq0
returns-then-out-eq0 c =
    stored_outside (omega (arith, c.if-out-eq0.true)) (sym (coordinate_length c.args.word))
