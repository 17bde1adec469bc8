-- Order of the values of a function on places. Assumes nothing.
use Rattle.std.specs.Prelude.{ℕ, ◌<◌}

-- s ascends strictly below n
abbrev pub Ascending : ℕ → (ℕ → ℕ) → Type 0
Ascending n s = (i j : ℕ) → i < j → j < n → s i < s j
