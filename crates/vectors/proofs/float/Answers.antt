-- `vectors::float` meets its contract. Assumes nothing.
use lib.Ieee.{nan_bits}
use mathlib.Core.Path.{sym, ◌∙◌}
use Rattle.vectors.proofs.float.Goals as goal

pub finite_float-requires : goal.finite_float-requires
finite_float-requires c =
    sym c.finite_word.ensures ∙ c.if-finite_word.true

pub float_from_bits-top : goal.float_from_bits-top
unfolding nan_bits
float_from_bits-top c =
    tt
