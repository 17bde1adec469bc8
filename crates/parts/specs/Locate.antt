-- Where the labels of part 2 stand in a block's memory. Assumes nothing.
use Rattle.std.specs.Prelude.{◌≡◌, true, ◌⊎◌, List, ℕ, ◌<◌, length, get_or}
use Rattle.model.specs.Values.{room}
use Rattle.model.specs.Image.{column, is_critical_word}
use Rattle.ranking.specs.Ranks.{value_at, index_at}

-- stands for no place
abbrev pub none_there : ℕ
none_there = room

-- place p noted for the entry whose code the critical dart there has
pub record Noted (m keys : List ℕ) (c p : ℕ) (a a' : List ℕ) : Type 0 where
  pub size : length a' ≡ length a
  pub hit : is_critical_word (column m 3 p) ≡ true → (r : ℕ) → r < c → value_at keys r ≡ column m 4 p → get_or a' (index_at keys r) 0 ≡ p
  pub other : (e : ℕ) → (is_critical_word (column m 3 p) ≡ true → (r : ℕ) → r < c → value_at keys r ≡ column m 4 p → index_at keys r ≡ e → ⊥) → get_or a' e 0 ≡ get_or a e 0

-- y is the place among the first n of the critical dart with a code, or there is none
abbrev pub LocatedAt : List ℕ → ℕ → ℕ → ℕ → Type 0
LocatedAt m code n y = ((y < n) × (is_critical_word (column m 3 y) ≡ true) × (column m 4 y ≡ code)) ⊎ ((y ≡ none_there) × ((p : ℕ) → p < n → is_critical_word (column m 3 p) ≡ true → column m 4 p ≡ code → ⊥))

pub record Located (m codes : List ℕ) (c n : ℕ) (places : List ℕ) : Type 0 where
  pub each : (e : ℕ) → e < c → LocatedAt m (get_or codes e 0) n (get_or places e 0)
