-- `sound::dart::label_right` meets its contract: maker and number are parts of the label.
-- Assumes nothing.
use mathlib.Core.Path.{refl}
use Rattle.columns.specs.Columns.{label_test}
use Rattle.sound.proofs.dart.label_right.Goals as goal

pub returns : goal.returns
unfolding label_test
returns c =
    rw (c.maker_of-maker.ensures, c.number_of-number.ensures, c.is_critical-critical.ensures, c.other_of-other.ensures) refl
