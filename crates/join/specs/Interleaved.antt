-- A block and a draft of new darts, and where the darts of both stand in the memory with both. Assumes nothing.
use Rattle.std.specs.Prelude.{◌≡◌, List, ◌⊎◌, ℕ, ◌+◌, ◌*◌, ◌≤◌, ◌<◌, get_or}
use Rattle.model.specs.Image.{column, dart_in}
use Rattle.laws.specs.Order.{Ascending}
use Rattle.columns.specs.Columns.{Kind}
use Rattle.cells.specs.Places.{Linked}
use Rattle.place.specs.Renumber.{moved_link}
use Rattle.join.specs.Interleave.{Interleaves}

-- memory of n darts with zeros behind them, and a draft of k free darts
pub record Drafted (m c : List ℕ) (n k : ℕ) : Type 0 where
  pub interleaves : Interleaves m c n k
  pub block_linked : Linked m n
  pub draft_linked : Linked c k
  pub kinds : (p : ℕ) → p < n → Kind (column m 3 p) (column m 4 p)
  pub free : (q : ℕ) → q < k → (column c 3 q ≡ 0) × (column c 4 q ≡ 0)
  pub rest : (i : ℕ) → 8 + n * 8 ≤ i → get_or m i 0 ≡ 0

-- the record at place q of x is that at place p of m, with places moved by t
pub record MovedTo (m x : List ℕ) (t : ℕ → ℕ) (p q : ℕ) : Type 0 where
  pub serial : column x 0 q ≡ column m 0 p
  pub next : column x 1 q ≡ t (column m 1 p)
  pub opposite : column x 2 q ≡ t (column m 2 p)
  pub kind : column x 3 q ≡ column m 3 p
  pub link : column x 4 q ≡ moved_link t (column m 3 p) (column m 4 p)
  pub on_x : column x 5 q ≡ column m 5 p
  pub on_y : column x 6 q ≡ column m 6 p
  pub on_z : column x 7 q ≡ column m 7 p

-- x has the n darts of m at their places of `old`, the k darts of c at theirs of `new`, and no others
pub record Stands (m c x : List ℕ) (n k : ℕ) (old new : List ℕ) : Type 0 where
  pub old_lt : (p : ℕ) → p < n → get_or old p 0 < n + k
  pub new_lt : (q : ℕ) → q < k → get_or new q 0 < n + k
  pub old_dart : (p : ℕ) → p < n → dart_in x (get_or old p 0) ≡ dart_in m p
  pub new_dart : (q : ℕ) → q < k → dart_in x (get_or new q 0) ≡ dart_in c q
  pub old_moved : (p : ℕ) → p < n → MovedTo m x (λ y. get_or old y 0) p (get_or old p 0)
  pub new_moved : (q : ℕ) → q < k → MovedTo c x (λ y. get_or new y 0) q (get_or new q 0)
  pub old_up : Ascending n (λ p. get_or old p 0)
  pub new_up : Ascending k (λ q. get_or new q 0)
  pub apart : (p q : ℕ) → p < n → q < k → get_or old p 0 ≡ get_or new q 0 → ⊥
  pub every : (t : ℕ) → t < n + k → ((p : ℕ) × (p < n) × (t ≡ get_or old p 0)) ⊎ ((q : ℕ) × (q < k) × (t ≡ get_or new q 0))
