-- The labels of the critical new darts by their kind and link words. Assumes nothing.
use Rattle.std.specs.Prelude.{◌≡◌, Bool, cond, not, ◌&&◌, ◌||◌, List, ℕ, ◌+◌, ◌^◌, ltb, eqb, get_or, take}
use Rattle.model.specs.Lists.{all, mem, distinct, tab}
use Rattle.model.specs.Image.{column, is_critical_word, label_in}

-- of block `me`, with its counter: no own-made label from the counter on
abbrev pub own_right : ℕ → ℕ → ℕ → ℕ → Bool
own_right me counter kind link = not (is_critical_word kind) || (not (eqb (label_in link).maker me) || ltb (label_in link).number counter)

abbrev pub own_at : ℕ → ℕ → List ℕ → List ℕ → ℕ → Bool
own_at me counter kinds links q = own_right me counter (get_or kinds q 0) (get_or links q 0)

-- the code of a critical dart; of any other a value above all codes, its own
abbrev pub fresh_value : ℕ → ℕ → ℕ → ℕ
fresh_value kind link q = cond (is_critical_word kind) link (2 ^ 48 + q)

abbrev pub fresh_at : List ℕ → List ℕ → ℕ → ℕ
fresh_at kinds links q = fresh_value (get_or kinds q 0) (get_or links q 0) q

-- an array that begins with the values of the first k darts
pub record ValuesPut (kinds links : List ℕ) (k : ℕ) (values : List ℕ) : Type 0 where
  pub front : take k values ≡ tab (fresh_at kinds links) k

-- the dart at place p of a block has none of these for a label
abbrev pub clear_at : List ℕ → List ℕ → ℕ → Bool
clear_at m values p = not (is_critical_word (column m 3 p)) || not (mem (column m 4 p) values)

-- the labels of the first k darts beside a block of n darts
abbrev pub labels_fit : List ℕ → ℕ → List ℕ → List ℕ → ℕ → Bool
labels_fit m n kinds links k = all (own_at (get_or m 0 0) (get_or m 1 0) kinds links) (tab (λ q. q) k) && distinct (tab (fresh_at kinds links) k) && all (clear_at m (tab (fresh_at kinds links) k)) (tab (λ p. p) n)
