-- Pieces of a text: bytes that stand in it, one behind the other. Wrong reading that this is not: bytes of which each stands somewhere in the
-- text. Assumes nothing.
use Rattle.std.specs.Prelude.{◌≡◌, ◌≤◌, ◌-◌, List, ℕ, length, take, drop}

-- the bytes of a text from one place to another
pub record Piece (text piece : List ℕ) : Type 0 where
  pub from : ℕ
  pub end : ℕ
  pub ordered : from ≤ end
  pub within : end ≤ length text
  pub bytes : piece ≡ take (end - from) (drop from text)
