-- The numbers of part 3 and the blocks of part 4, in arrays. Assumes nothing.
use Rattle.std.specs.Prelude.{Bool, not, ◌&&◌, List, ℕ, suc, ◌+◌, eqb, get_or}

-- the number after e follows that of e
abbrev pub follows_at : List ℕ → ℕ → Bool
follows_at numbers e = eqb (suc (get_or numbers e 0)) (get_or numbers (e + 1) 0)

-- the block of entry e is neither end
abbrev pub neither_at : List ℕ → ℕ → ℕ → ℕ → Bool
neither_at others from to e = not (eqb (get_or others e 0) from) && not (eqb (get_or others e 0) to)
