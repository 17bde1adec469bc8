-- `codec::dart::read_dart` meets its contract: the five parts of a dart, each read where the one before ends.
-- Assumes nothing.
use mathlib.Core.Path.{sym, ◌∙◌}
use Rattle.model.specs.Layouts.{serial}
use Rattle.groups.proofs.Ends.{bad_at}
use Rattle.codec.proofs.Taking.{took_serial}
use Rattle.codec.proofs.ThirdReads.{third_got, third_lacks}
use Rattle.codec.proofs.PointReads.{point_got, point_lacks}
use Rattle.codec.proofs.DartReads.{no_serial, no_next, no_opposite, no_link, no_point, five_read}
use Rattle.codec.proofs.dart.read_dart.Goals as goal

pub returns-in_err-serial : goal.returns-in_err-serial
returns-in_err-serial c =
    rw c.from_residual.ensures (
    no_serial (record { value = bad_at serial _ _ (sym c.in_err-serial.was ∙ c.read_serial.ensures) }))

pub returns-in_err-next : goal.returns-in_err-next
returns-in_err-next c =
    rw c.from_residual-in_err-next.ensures (
    no_next (took_serial (sym c.in_ok-serial.was ∙ c.read_serial.ensures))
    (record { value = bad_at serial _ _ (sym c.in_err-next.was ∙ c.read_serial-2.ensures) }))

pub returns-in_err-opposite : goal.returns-in_err-opposite
returns-in_err-opposite c =
    rw c.from_residual-in_err-opposite.ensures (
    no_opposite (took_serial (sym c.in_ok-serial.was ∙ c.read_serial.ensures))
    (took_serial (sym c.in_ok-next.was ∙ c.read_serial-2.ensures))
    (record { value = bad_at serial _ _ (sym c.in_err-opposite.was ∙ c.read_serial-3.ensures) }))

pub returns-in_err-kind : goal.returns-in_err-kind
returns-in_err-kind c =
    rw c.from_residual-in_err-kind.ensures (
    no_link (took_serial (sym c.in_ok-serial.was ∙ c.read_serial.ensures))
    (took_serial (sym c.in_ok-next.was ∙ c.read_serial-2.ensures))
    (took_serial (sym c.in_ok-opposite.was ∙ c.read_serial-3.ensures)) (third_lacks (sym c.in_err-kind.was ∙ c.read_third.ensures)))

pub returns-in_err-x : goal.returns-in_err-x
returns-in_err-x c =
    rw c.from_residual-in_err-x.ensures (
    no_point (took_serial (sym c.in_ok-serial.was ∙ c.read_serial.ensures))
    (took_serial (sym c.in_ok-next.was ∙ c.read_serial-2.ensures))
    (took_serial (sym c.in_ok-opposite.was ∙ c.read_serial-3.ensures))
    (third_got (sym c.in_ok-kind.was ∙ c.read_third.ensures)) (point_lacks (sym c.in_err-x.was ∙ c.read_point.ensures)))

pub returns : goal.returns
returns c =
    five_read (took_serial (sym c.in_ok-serial.was ∙ c.read_serial.ensures))
    (took_serial (sym c.in_ok-next.was ∙ c.read_serial-2.ensures))
    (took_serial (sym c.in_ok-opposite.was ∙ c.read_serial-3.ensures))
    (third_got (sym c.in_ok-kind.was ∙ c.read_third.ensures))
    (point_got (sym c.in_ok-x.was ∙ c.read_point.ensures))
