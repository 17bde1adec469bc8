-- `sound::dart::critical_right` meets its contract: maker and number are parts of the label.
-- Assumes nothing.
use mathlib.Core.Path.{refl}
use Rattle.columns.specs.Columns.{critical_test}
use Rattle.sound.proofs.dart.critical_right.Goals as goal

pub returns : goal.returns
unfolding critical_test
returns c =
    rw (c.maker_of-maker.ensures, c.number_of-number.ensures, c.other_of-other.ensures) refl
