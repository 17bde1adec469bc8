-- New darts put among those of a block, renumbered: where each goes, and the memory afterwards. Assumes nothing.
use Rattle.std.specs.Prelude.{◌≡◌, Bool, true, false, cond, List, [], ◌∷◌, ◌++◌, ℕ, zero, suc, ◌+◌, ◌*◌, ◌-◌, ◌≤◌, ◌<◌, eqb, ltb, length, get_or, drop}
use Rattle.model.specs.Lists.{concat, tab}
use Rattle.model.specs.Image.{words_for, column}
use Rattle.model.specs.Values.{room}
use Rattle.laws.specs.Order.{Ascending}
use Rattle.memory.specs.declared.record.Record.{Record}
use Rattle.memory.specs.Record.{record_words}
use Rattle.place.specs.Renumber.{renumbered}
use Rattle.release.specs.LetGo.{moved_words}
use Rattle.release.specs.Asks.{Bounded}

-- WHERE EACH GOES
-- how many of f's first k values lie below v
unfoldable pub below : (ℕ → ℕ) → ℕ → ℕ → ℕ
below f zero v = 0
below f (suc k) v = cond (ltb (f k) v) (suc (below f k v)) (below f k v)

-- where place p of s goes when the k values of f come in among those of s
abbrev pub up : (ℕ → ℕ) → (ℕ → ℕ) → ℕ → ℕ → ℕ
up s f k p = p + below f k (s p)

-- both ascend, and no value is in both
pub record Between (s : ℕ → ℕ) (n : ℕ) (f : ℕ → ℕ) (k : ℕ) : Type 0 where
  pub s_up : Ascending n s
  pub f_up : Ascending k f
  pub differ : (p q : ℕ) → p < n → q < k → s p ≡ f q → ⊥

-- whether the last of s's first i and f's first j values is one of s
unfoldable pub last_old : (ℕ → ℕ) → (ℕ → ℕ) → ℕ → ℕ → Bool
last_old s f i j = cond (eqb j 0) true (cond (eqb i 0) false (ltb (f (j - 1)) (s (i - 1))))

-- THE RECORDS: those of g, by the keys s, and those of h, by the keys f
module _ {A : Type 0} (s f : ℕ → ℕ) (g h : ℕ → A) where
  -- r, of key v, behind the last of g's first i whose key is not above v; `rest` is what comes before r
  unfoldable pub behind : ℕ → A → (ℕ → List A) → ℕ → List A
  behind v r rest zero = rest zero ++ r ∷ []
  behind v r rest (suc i) = cond (ltb v (s i)) (behind v r rest i ++ g i ∷ []) (rest (suc i) ++ r ∷ [])

  -- the first i of g and the first j of h, by ascending key
  unfoldable pub interleave : ℕ → ℕ → List A
  interleave i zero = tab g i
  interleave i (suc j) = behind (f j) (h j) (λ p. interleave p j) i

-- the words of a record with places moved by t
abbrev pub moved_record : (ℕ → ℕ) → Record → List ℕ
moved_record t r = record_words (renumbered t r)

-- of n darts of m and k darts of c, the records of the first i and the first j, each with its links as they are afterwards
abbrev pub rows : List ℕ → ℕ → List ℕ → ℕ → ℕ → ℕ → List (List ℕ)
rows m n c k i j = interleave (column m 0) (column c 0) (moved_words (up (column m 0) (column c 0) k) m) (moved_words (up (column c 0) (column m 0) n) c) i j

-- THE MEMORY AFTERWARDS: m with n darts, and the k darts of c among them
unfoldable pub interleaved_at : List ℕ → ℕ → List ℕ → ℕ → List ℕ
interleaved_at m n c k = (get_or m 0 0 ∷ get_or m 1 0 ∷ (n + k) ∷ 0 ∷ 0 ∷ 0 ∷ 0 ∷ 0 ∷ [])
    ++ (concat (rows m n c k n k) ++ drop (8 + (n + k) * 8) m)

-- what it asks: links that are places, serials that ascend and differ, and room for all
pub record Interleaves (m c : List ℕ) (n k : ℕ) : Type 0 where
  pub block : Bounded m n
  pub draft : Bounded c k
  pub keys : Between (column m 0) n (column c 0) k
  pub fits : n + k ≤ room
  pub holds : words_for (n + k) ≤ length m
