-- `sound::dart::place_at` meets its contract: serial, point, next and opposite are read and tested once.
-- Assumes nothing.
use mathlib.Core.Path.{refl}
use Rattle.columns.specs.Columns.{place_test}
use Rattle.sound.proofs.dart.place_at.Goals as goal

pub returns : goal.returns
unfolding place_test
returns c =
    rw (c.field-s.ensures, c.finite_at-f.ensures, c.field-a.ensures, c.field-b.ensures) refl
