-- The picked volumes of a block by place, and a walk that marks one volume after the other. Assumes nothing.
use Rattle.std.specs.Prelude.{◌≡◌, Bool, true, false, cond, ◌&&◌, List, map, ℕ, ◌+◌, ◌≤◌, ◌<◌, leb, length, get_or, take}
use Rattle.model.specs.Lists.{all, distinct, mem, sum}
use Rattle.model.specs.Balance.{Oracle, picks}
use Rattle.model.specs.Image.{column, dart_in}
use Rattle.oracle.specs.Oracle.{holds}
use Rattle.memory.specs.Point.{FiniteAt}
use Rattle.cells.specs.Places.{Linked, Closed, places_in, volume_of}
use Rattle.selection.specs.declared.Measured.{Measured}

-- the places of the volume of the dart at place p, ascending
abbrev pub volume_at : List ℕ → ℕ → List ℕ
volume_at m p = places_in (get_or m 2 0) (volume_of m p)

-- p is the least place of its volume
abbrev pub is_start : List ℕ → ℕ → Bool
is_start m p = all (leb p) (volume_at m p)

abbrev pub is_picked : Oracle → List ℕ → ℕ → Bool
is_picked o m p = picks o (map (λ q. (dart_in m q).point) (volume_at m p))

-- how many darts the picked volume has that p starts; 0 where it starts none
unfoldable pub picked_size : Oracle → List ℕ → ℕ → ℕ
picked_size o m p = cond (is_start m p && is_picked o m p) (length (volume_at m p)) 0

-- these sizes in a table
pub record Sizes (o : Oracle) (m sizes : List ℕ) : Type 0 where
  pub len : get_or m 2 0 ≤ length sizes
  pub entry : (p : ℕ) → p < get_or m 2 0 → get_or sizes p 0 ≡ picked_size o m p

-- a block's memory that can be walked, with finite points
pub record Walkable (m : List ℕ) : Type 0 where
  pub linked : Linked m (get_or m 2 0)
  pub finite_at : (p : ℕ) → p < get_or m 2 0 → FiniteAt m p

-- the test of the dart at place q
abbrev pub holds_at : Oracle → Bool → List ℕ → ℕ → Bool
holds_at o second m q = holds o second (dart_in m q).point

-- some of the places from one index on up to another passes
pub record SomePicked (t : ℕ → Bool) (order : List ℕ) (from to : ℕ) (r : Bool) : Type 0 where
  pub found : r ≡ true → (k : ℕ) × (from ≤ k) × (k < to) × (t (get_or order k 0) ≡ true)
  pub nothing : r ≡ false → (k : ℕ) → from ≤ k → k < to → t (get_or order k 0) ≡ false

-- marked places in a queue; no link leads out of them
pub record Marking (n : ℕ) (f g : ℕ → ℕ) (marks order : List ℕ) (tail : ℕ) : Type 0 where
  pub len_marks : n ≤ length marks
  pub len_order : n ≤ length order
  pub fits : tail ≤ n
  pub bits : (p : ℕ) → get_or marks p 0 ≤ 1
  pub count : tail ≡ sum marks
  pub once : distinct (take tail order) ≡ true
  pub queued : (k : ℕ) → k < tail → (get_or order k 0 < n) × (get_or marks (get_or order k 0) 0 ≡ 1)
  pub back : (p : ℕ) → get_or marks p 0 ≡ 1 → (k : ℕ) × (k < tail) × (get_or order k 0 ≡ p)
  pub closed_f : Closed n f marks
  pub closed_g : Closed n g marks

-- a volume was added to the marks and to the queue
pub record Added (n : ℕ) (v marks : List ℕ) (tail : ℕ) (marks' order' : List ℕ) (tail' : ℕ) : Type 0 where
  pub mark : (p : ℕ) → get_or marks' p 0 ≡ cond (mem p v) 1 (get_or marks p 0)
  pub new_in : (k : ℕ) → tail ≤ k → k < tail' → mem (get_or order' k 0) v ≡ true
  pub new_all : (p : ℕ) → mem p v ≡ true → (k : ℕ) × (tail ≤ k) × (k < tail') × (get_or order' k 0 ≡ p)
  pub size : tail' ≡ tail + length (places_in n v)

-- the volumes of the places below p are marked, and no other
pub record Through (m : List ℕ) (p : ℕ) (marks order : List ℕ) (tail : ℕ) : Type 0 where
  pub marking : Marking (get_or m 2 0) (column m 1) (column m 2) marks order tail
  pub covered : (q : ℕ) → q < p → get_or marks q 0 ≡ 1
  pub behind : (q : ℕ) → get_or marks q 0 ≡ 1 → (r : ℕ) × (r < p) × (mem q (volume_of m r) ≡ true)

-- what is measured at place p
pub record Measures (o : Oracle) (m : List ℕ) (p : ℕ) (r : Measured) (marks order : List ℕ) : Type 0 where
  pub through : Through m (p + 1) marks order r.tail
  pub size_is : r.size ≡ picked_size o m p
