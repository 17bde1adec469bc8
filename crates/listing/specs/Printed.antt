-- A text at the start of an output: bytes past it stay. Assumes nothing.
use Rattle.std.specs.Prelude.{◌≡◌, List, ◌++◌, ℕ, length, drop}

-- the output afterwards, and how many bytes the text has
pub record Printed (text before after : List ℕ) (n : ℕ) : Type 0 where
  pub output : after ≡ text ++ drop (length text) before
  pub count : n ≡ length text

-- bytes that are enough for any listing: 40 for the first line and 60 for each of 4,096 darts are fewer
abbrev pub listing_room : ℕ
listing_room = 262144

-- and for `refused N` and `too long`
abbrev pub refusal_room : ℕ
refusal_room = 20
