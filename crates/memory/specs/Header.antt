-- The header of a block by value, and its words. Assumes nothing.
use Rattle.std.specs.Prelude.{List, [], ◌∷◌, ℕ, get_or}
use Rattle.model.specs.Values.{Limits as ModelLimits}
use Rattle.memory.specs.declared.header.Header.{Header}
use Rattle.memory.specs.declared.header.Limits.{Limits}

-- "An empty block is made from its number alone, counter 0"
abbrev pub empty_header : ℕ → Header
empty_header n = record { number = n; counter = 0; darts = 0 }

-- what stands in a block's memory
abbrev pub header_in : List ℕ → Header
header_in m = record { number = get_or m 0 0; counter = get_or m 1 0; darts = get_or m 2 0 }

-- its 8 words
abbrev pub header_words : Header → List ℕ
header_words h = h.number ∷ h.counter ∷ h.darts ∷ 0 ∷ 0 ∷ 0 ∷ 0 ∷ 0 ∷ []

-- the model's limits
abbrev pub limits_of : Limits → ModelLimits
limits_of l = record { block_darts = l.block; volume_darts = l.volume }
