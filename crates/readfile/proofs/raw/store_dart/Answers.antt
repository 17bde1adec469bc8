-- `readfile::raw::store_dart` meets its contract: a dart is stored if it could be read and its serial is above the last one.
-- Assumes nothing.
use mathlib.Core.Path.{sym, ◌∙◌}
use Rattle.codec.proofs.DartReads.{dart_got, dart_lacks}
use Rattle.readfile.proofs.Storing.{no_dart_stored, not_above, dart_stored}
use Rattle.readfile.proofs.raw.store_dart.Goals as goal

pub returns-in_err-d : goal.returns-in_err-d
returns-in_err-d c =
    rw c.from_residual.ensures (
    no_dart_stored _ _ _ (dart_lacks (sym c.in_err-d.was ∙ c.read_dart.ensures)))

pub returns-then-serial-last : goal.returns-then-serial-last
returns-then-serial-last c =
    not_above _ _ _ (dart_got (sym c.in_ok-d.was ∙ c.read_dart.ensures)) c.if-serial-last.true

pub returns : goal.returns
returns c =
    dart_stored _ _ _ (dart_got (sym c.in_ok-d.was ∙ c.read_dart.ensures)) c.if-serial-last.false c.put_record.ensures
