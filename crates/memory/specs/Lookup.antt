-- The place of a serial. Assumes nothing.
use Rattle.std.specs.Prelude.{cond, ℕ, ltb, None, Option, Some}
use Rattle.model.specs.Lists.{tab, index_of}
use Rattle.memory.specs.declared.record.Place.{Place}

-- where x stands first among s 0, s 1, .., n values
unfoldable pub place_in : (ℕ → ℕ) → ℕ → ℕ → Option Place
place_in s n x = let i = index_of x (tab s n) in cond (ltb i n) (Some (record { 0 = i })) None
