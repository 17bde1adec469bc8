-- Entries one after the other, by index, and how many pass a test. Assumes nothing.
use Rattle.std.specs.Prelude.{Bool, cond, List, [], ◌++◌, ℕ, zero, suc}

-- the bytes of the entries 0, 1, .., n of them
unfoldable pub run : (ℕ → List ℕ) → ℕ → List ℕ
run b zero = []
run b (suc n) = run b n ++ b n

-- how many of 0, 1, .., n of them pass
unfoldable pub tally : (ℕ → Bool) → ℕ → ℕ
tally q zero = 0
tally q (suc n) = let t = tally q n in cond (q n) (suc t) t
