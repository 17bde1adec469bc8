-- The limits of memory, by its size. Assumes nothing.
use Rattle.std.specs.Prelude.{cond, ℕ, eqb}
use Rattle.model.specs.Values.{Limits, rack, viewer}
use Rattle.model.specs.Image.{words_of}

-- a viewer's memory has its own size
unfoldable pub limits_by : ℕ → Limits
limits_by n = cond (eqb n (words_of viewer)) viewer rack
