-- The words of the new darts where part 2's are put over those of parts 3 and 4. Assumes nothing.
-- m: the block's memory, with n darts; x, b, z: serial, start and size of the face, by index in the message, of k darts; indices: where
-- the faces of the c entries of part 2 start; w: the place that each dart of such a face meets; starts: where those of parts 3 and 4 start.
use Rattle.std.specs.Prelude.{◌≡◌, true, false, List, ℕ, zero, suc, ◌+◌, ◌-◌, ◌<◌, length, get_or}
use Rattle.model.specs.Lists.{all, mem, tab}
use Rattle.model.specs.Cells.{cycle}
use Rattle.model.specs.Image.{column, is_critical_word}
use Rattle.model.specs.Links.{Link, sew_both}
use Rattle.columns.specs.Columns.{Kind}
use Rattle.arrival.specs.Sides.{Segments}
use Rattle.parts.specs.Faces.{Faced}
use Rattle.parts.specs.Indices.{starts_at}

-- the links of the face of n darts that starts at index i and meets the places w; s has the serials of the block by place
abbrev pub met_links : (ℕ → ℕ) → List ℕ → ℕ → ℕ → (ℕ → ℕ) → List Link
met_links s x i n w = sew_both (tab (λ j. (get_or x (i + j) 0, s (w j))) n)

-- serials of k new darts and of the block's n, all different
pub record LabelsApart (s : ℕ → ℕ) (x : List ℕ) (n k : ℕ) : Type 0 where
  pub new_differ : (i j : ℕ) → i < k → j < k → get_or x i 0 ≡ get_or x j 0 → i ≡ j
  pub old_differ : (p q : ℕ) → p < n → q < n → s p ≡ s q → p ≡ q
  pub not_held : (i p : ℕ) → i < k → p < n → get_or x i 0 ≡ s p → ⊥

-- the faces of part 2, at indices, and the places that they meet
pub record Meets (b z indices : List ℕ) (n k c : ℕ) (w : ℕ → ℕ → ℕ) : Type 0 where
  pub segs : Segments b z k
  pub index_below : (e : ℕ) → e < c → get_or indices e 0 < k
  pub starts_face : (e : ℕ) → e < c → get_or b (get_or indices e 0) 0 ≡ get_or indices e 0
  pub faces_differ : (d e : ℕ) → d < c → e < c → get_or indices d 0 ≡ get_or indices e 0 → d ≡ e
  pub met_below : (e j : ℕ) → e < c → j < get_or z (get_or indices e 0) 0 → w e j < n
  pub met_differ : (d i e j : ℕ) → d < c → i < get_or z (get_or indices d 0) 0 → e < c → j < get_or z (get_or indices e 0) 0 → w d i ≡ w e j → (d ≡ e) × (i ≡ j)

-- the words before part 2's are put: critical on the faces that start at those indices, else 0
pub record Before (b kinds links starts : List ℕ) (k : ℕ) : Type 0 where
  pub kind_right : (q : ℕ) → q < k → Kind (get_or kinds q 0) (get_or links q 0)
  pub all_start : all (starts_at b k) starts ≡ true
  pub kind_in : (q : ℕ) → q < k → mem (get_or b q 0) starts ≡ true → is_critical_word (get_or kinds q 0) ≡ true
  pub kind_out : (q : ℕ) → q < k → mem (get_or b q 0) starts ≡ false → get_or kinds q 0 ≡ 0

-- the words with part 2's put over them
pub record Sewing2 (s : ℕ → ℕ) (x b z indices starts kinds links kinds' links' : List ℕ) (n k c : ℕ) (w : ℕ → ℕ → ℕ) : Type 0 where
  pub serials : LabelsApart s x n k
  pub meets : Meets b z indices n k c w
  pub before : Before b kinds links starts k
  pub kinds_put : Faced z indices c (λ e j. 1) kinds kinds'
  pub links_put : Faced z indices c w links links'

-- k steps along a link
abbrev pub steps : (ℕ → ℕ) → ℕ → ℕ → ℕ
steps f zero y = y
steps f (suc k) y = steps f k (f y)

-- the places where the labels of part 2 stand, and the faces of equal size that are met from there, against next
pub record Placing2 (m codes indices places z : List ℕ) (c : ℕ) (w : ℕ → ℕ → ℕ) : Type 0 where
  pub place_below : (e : ℕ) → e < c → get_or places e 0 < get_or m 2 0
  pub is_critical : (e : ℕ) → e < c → is_critical_word (column m 3 (get_or places e 0)) ≡ true
  pub code_is : (e : ℕ) → e < c → column m 4 (get_or places e 0) ≡ get_or codes e 0
  pub size_is : (e : ℕ) → e < c → get_or z (get_or indices e 0) 0 ≡ length (cycle (column m 1) (get_or places e 0))
  pub met_is : (e j : ℕ) → e < c → j < get_or z (get_or indices e 0) 0 → w e j ≡ steps (column m 1) (get_or z (get_or indices e 0) 0 - j) (get_or places e 0)

-- no place is met twice
pub record MetOnce (z indices : List ℕ) (c : ℕ) (w : ℕ → ℕ → ℕ) : Type 0 where
  pub once : (d i e j : ℕ) → d < c → i < get_or z (get_or indices d 0) 0 → e < c → j < get_or z (get_or indices e 0) 0 → w d i ≡ w e j → (d ≡ e) × (i ≡ j)
