-- `sound::dart::sewn_at` meets its contract: three words are read and tested.
-- Assumes nothing.
use mathlib.Core.Path.{refl}
use Rattle.columns.specs.Columns.{sewn_test}
use Rattle.sound.proofs.dart.sewn_at.Goals as goal

pub returns : goal.returns
unfolding sewn_test
returns c =
    rw (c.is_sewn-sewn.ensures, c.field-k.ensures, c.field-b.ensures, c.field-x.ensures) refl
