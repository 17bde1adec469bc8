-- `inbox::faces::read_points` meets its contract: a count, and room for so many points.
-- Assumes nothing.
use mathlib.Core.Path.{sym, ◌∙◌}
use Rattle.model.specs.Layouts.{group}
use Rattle.model.specs.Messages.{point}
use Rattle.groups.proofs.Ends.{bad_at}
use Rattle.codec.proofs.Taking.{took_group, counted_none}
use Rattle.inbox.proofs.Points.{points_read, points_bad}
use native.Mathlib.Omega.{arith}
use Rattle.inbox.proofs.faces.read_points.Goals as goal

pub returns-in_err-n : goal.returns-in_err-n
returns-in_err-n c =
    rw c.from_residual.ensures (
    record { said = counted_none point _ (bad_at group _ _ (sym c.in_err-n.was ∙ c.read_group.ensures)) })

pub overflow_sub-room : goal.overflow_sub-room
overflow_sub-room c =
    omega (arith, (took_group (sym c.in_ok-n.was ∙ c.read_group.ensures)).within)

pub returns-then-room-n : goal.returns-then-room-n
returns-then-room-n c =
    points_bad (took_group (sym c.in_ok-n.was ∙ c.read_group.ensures))
    (omega (arith, c.if-room-n.true, (took_group (sym c.in_ok-n.was ∙ c.read_group.ensures)).within))

pub returns : goal.returns
returns c =
    points_read (took_group (sym c.in_ok-n.was ∙ c.read_group.ensures))
    (omega (arith, c.if-room-n.false, (took_group (sym c.in_ok-n.was ∙ c.read_group.ensures)).within))
