-- The third links of faces in arrays by message index. Assumes nothing.
use Rattle.std.specs.Prelude.{◌≡◌, ◌⊎◌, List, map, ℕ, ◌+◌, ◌*◌, ◌≤◌, ◌<◌, length, get_or}
use Rattle.model.specs.Values.{code, number_bound, positions}
use Rattle.parts.specs.Entries.{labels_at}

-- n words written from index `at` on
pub record Over (at n : ℕ) (f : ℕ → ℕ) (a a' : List ℕ) : Type 0 where
  pub size : length a' ≡ length a
  pub inside : (j : ℕ) → j < n → get_or a' (at + j) 0 ≡ f j
  pub outside : (q : ℕ) → (q < at) ⊎ (at + n ≤ q) → get_or a' q 0 ≡ get_or a q 0

-- the faces that start at the first c indices lie in k darts, one after the other
pub record Spans (z indices : List ℕ) (k c : ℕ) : Type 0 where
  pub within : (e : ℕ) → e < c → get_or indices e 0 + get_or z (get_or indices e 0) 0 ≤ k
  pub below : (e : ℕ) → e < c → get_or indices e 0 < k
  pub apart : (d e : ℕ) → d < e → e < c → get_or indices d 0 + get_or z (get_or indices d 0) 0 ≤ get_or indices e 0

-- words written on the faces that start at the first c indices: f by entry and position
pub record Faced (z indices : List ℕ) (c : ℕ) (f : ℕ → ℕ → ℕ) (a a' : List ℕ) : Type 0 where
  pub size : length a' ≡ length a
  pub inside : (e : ℕ) → e < c → (j : ℕ) → j < get_or z (get_or indices e 0) 0 → get_or a' (get_or indices e 0 + j) 0 ≡ f e j
  pub outside : (q : ℕ) → ((e : ℕ) → e < c → (q < get_or indices e 0) ⊎ (get_or indices e 0 + get_or z (get_or indices e 0) 0 ≤ q)) → get_or a' q 0 ≡ get_or a q 0

-- the code of the label of a part 3 face at a position
abbrev pub numbered_code : ℕ → List ℕ → ℕ → ℕ → ℕ
numbered_code from numbers e j = (from * number_bound + get_or numbers e 0) * positions + j

-- the code of a label that stands from a place on
abbrev pub code_at : List ℕ → ℕ → ℕ → ℕ → ℕ
code_at s at n j = get_or (map code (labels_at s at n)) j 0
