-- `inbox::faces::read_face` meets its contract: a size that fits, then the darts.
-- Assumes nothing.
use mathlib.Core.Path.{sym, ◌∙◌}
use Rattle.model.specs.Layouts.{group}
use Rattle.groups.proofs.Ends.{bad_at}
use Rattle.codec.proofs.Taking.{took_group}
use Rattle.inbox.proofs.FaceArrays.{face_none, face_large, face_read}
use native.Mathlib.Omega.{arith}
use Rattle.inbox.proofs.faces.read_face.Goals as goal

pub returns-in_err-n : goal.returns-in_err-n
returns-in_err-n c =
    rw c.from_residual.ensures (
    face_none c.args.s.now c.args.at (bad_at group _ _ (sym c.in_err-n.was ∙ c.read_group.ensures)) c.requires.1)

pub returns-then-room-n : goal.returns-then-room-n
returns-then-room-n c =
    face_large _ (took_group (sym c.in_ok-n.was ∙ c.read_group.ensures)) (omega (arith, c.if-room-n.true)) c.requires.1

pub read_darts-requires : goal.read_darts-requires
read_darts-requires c =
    ((took_group (sym c.in_ok-n.was ∙ c.read_group.ensures)).within, omega (arith, c.if-room-n.false), c.requires.1)

pub returns : goal.returns
returns c =
    face_read c.args.start.0 (took_group (sym c.in_ok-n.was ∙ c.read_group.ensures)) (omega (arith, c.if-room-n.false)) c.read_darts.ensures
