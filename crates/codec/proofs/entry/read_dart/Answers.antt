-- `codec::entry::read_dart` meets its contract: a vertex, then a serial.
-- Assumes nothing.
use mathlib.Core.Path.{sym, ◌∙◌}
use Rattle.model.specs.Layouts.{group, serial}
use Rattle.groups.proofs.Ends.{bad_at}
use Rattle.codec.proofs.Taking.{took_group, took_serial, dart_none, dart_half, dart_took}
use Rattle.codec.proofs.entry.read_dart.Goals as goal

pub returns-in_err-vertex : goal.returns-in_err-vertex
returns-in_err-vertex c =
    rw c.from_residual.ensures (
    record { said = dart_none _ (bad_at group _ _ (sym c.in_err-vertex.was ∙ c.read_group.ensures)) })

pub returns-in_err-serial : goal.returns-in_err-serial
returns-in_err-serial c =
    rw c.from_residual-in_err-serial.ensures (
    record {
      said = dart_half (took_group (sym c.in_ok-vertex.was ∙ c.read_group.ensures))
          (bad_at serial _ _ (sym c.in_err-serial.was ∙ c.read_serial.ensures));
    })

pub returns : goal.returns
returns c =
    record {
      said = dart_took (took_group (sym c.in_ok-vertex.was ∙ c.read_group.ensures)) (took_serial (sym c.in_ok-serial.was ∙ c.read_serial.ensures));
    }
