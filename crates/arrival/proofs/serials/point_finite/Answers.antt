-- `arrival::serials::point_finite` meets its contract.
-- Assumes nothing.
use mathlib.Core.Path.{refl}
use Rattle.model.specs.Values.{finite}
use Rattle.arrival.proofs.serials.point_finite.Goals as goal

pub returns : goal.returns
unfolding finite
returns c =
    rw (c.finite_word-x.ensures, c.finite_word-y.ensures, c.finite_word-z.ensures, c.word_at.ensures, c.word_at-2.ensures, c.word_at-3.ensures) refl
