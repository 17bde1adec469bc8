-- `codec::entry::read_point` meets its contract: three coordinates, each read where the one before ends.
-- Assumes nothing.
use mathlib.Core.Path.{sym, ◌∙◌}
use Rattle.model.specs.Layouts.{coordinate}
use Rattle.groups.proofs.Ends.{bad_at}
use Rattle.codec.proofs.Taking.{took_coordinate}
use Rattle.codec.proofs.PointReads.{no_x, no_y, no_z, three_read}
use Rattle.codec.proofs.entry.read_point.Goals as goal

pub returns-in_err-x : goal.returns-in_err-x
returns-in_err-x c =
    rw c.from_residual.ensures (
    no_x (record { value = bad_at coordinate _ _ (sym c.in_err-x.was ∙ c.read_coordinate.ensures) }))

pub returns-in_err-y : goal.returns-in_err-y
returns-in_err-y c =
    rw c.from_residual-in_err-y.ensures (
    no_y (took_coordinate (sym c.in_ok-x.was ∙ c.read_coordinate.ensures))
    (record { value = bad_at coordinate _ _ (sym c.in_err-y.was ∙ c.read_coordinate-2.ensures) }))

pub returns-in_err-z : goal.returns-in_err-z
returns-in_err-z c =
    rw c.from_residual-in_err-z.ensures (
    no_z (took_coordinate (sym c.in_ok-x.was ∙ c.read_coordinate.ensures))
    (took_coordinate (sym c.in_ok-y.was ∙ c.read_coordinate-2.ensures))
    (record { value = bad_at coordinate _ _ (sym c.in_err-z.was ∙ c.read_coordinate-3.ensures) }))

pub returns : goal.returns
returns c =
    three_read (took_coordinate (sym c.in_ok-x.was ∙ c.read_coordinate.ensures))
    (took_coordinate (sym c.in_ok-y.was ∙ c.read_coordinate-2.ensures))
    (took_coordinate (sym c.in_ok-z.was ∙ c.read_coordinate-3.ensures))
