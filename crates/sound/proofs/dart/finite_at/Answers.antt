-- `sound::dart::finite_at` meets its contract: three words are tested.
-- Assumes nothing.
use mathlib.Core.Path.{refl}
use Rattle.model.specs.Values.{finite}
use Rattle.sound.proofs.dart.finite_at.Goals as goal

pub returns : goal.returns
unfolding finite
returns c =
    rw (c.finite_word-x.ensures, c.finite_word-y.ensures, c.finite_word-z.ensures, c.field.ensures, c.field-2.ensures, c.field-3.ensures) refl
