-- A text that stands at a place of some bytes. Assumes nothing.
use Rattle.std.specs.Prelude.{◌≡◌, List, ℕ, ◌+◌, ◌≤◌, ◌<◌, length, get_or}

pub record Stands (bs : List ℕ) (at : ℕ) (text : List ℕ) : Type 0 where
  pub within : at + length text ≤ length bs
  pub same : (i : ℕ) → i < length text → get_or bs (at + i) 0 ≡ get_or text i 0
