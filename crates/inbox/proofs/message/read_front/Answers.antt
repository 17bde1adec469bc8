-- `inbox::message::read_front` meets its contract: what is missing, or the outline of part 1.
-- Assumes nothing.
use mathlib.Core.Path.{sym, ◌∙◌}
use Rattle.model.specs.Layouts.{group}
use Rattle.groups.proofs.Ends.{bad_at}
use Rattle.codec.proofs.Taking.{took_group}
use Rattle.inbox.proofs.Outlining.{front_bad, no_points, took_points, no_count, no_faces, front_read}
use native.Mathlib.Omega.{arith}
use Rattle.inbox.proofs.message.read_front.Goals as goal

pub returns-in_err-vertices : goal.returns-in_err-vertices
returns-in_err-vertices c =
    rw c.from_residual.ensures (
    front_bad c.requires.1 (no_points c.requires.0 c.in_err-vertices.was c.read_points.ensures))

pub overflow_mul-vertices : goal.overflow_mul-vertices
overflow_mul-vertices c =
    omega (arith, (took_points c.in_ok-vertices.was c.read_points.ensures).within)

pub overflow_add-points : goal.overflow_add-points
overflow_add-points c =
    omega (arith, (took_points c.in_ok-vertices.was c.read_points.ensures).within)

pub returns-in_err-count : goal.returns-in_err-count
returns-in_err-count c =
    rw c.from_residual-in_err-count.ensures (
    front_bad c.requires.1
    (no_count _ _ c.requires.0 (took_points c.in_ok-vertices.was c.read_points.ensures) (bad_at group _ _ (sym c.in_err-count.was ∙ c.read_group.ensures))))

pub read_faces-requires : goal.read_faces-requires
read_faces-requires c =
    ((took_group (sym c.in_ok-count.was ∙ c.read_group.ensures)).within, c.requires.1)

pub returns-in_err-faces : goal.returns-in_err-faces
returns-in_err-faces c =
    rw c.from_residual-in_err-faces.ensures (
    no_faces _ _ c.requires.0 (took_points c.in_ok-vertices.was c.read_points.ensures)
    (took_group (sym c.in_ok-count.was ∙ c.read_group.ensures)) c.read_faces.ensures c.in_err-faces.was)

pub returns : goal.returns
returns c =
    front_read _ _ c.requires.0 (took_points c.in_ok-vertices.was c.read_points.ensures)
    (took_group (sym c.in_ok-count.was ∙ c.read_group.ensures)) c.read_faces.ensures c.in_ok-faces.was
