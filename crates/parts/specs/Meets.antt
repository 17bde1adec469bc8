-- A new face beside the face that it meets, by places of the draft and of the block. Assumes nothing.
use Rattle.std.specs.Prelude.{◌≡◌, Bool, true, cond, ◌&&◌, List, ℕ, ◌+◌, ◌*◌, ◌-◌, ◌≤◌, ◌<◌, eqb, length, get_or, take}
use Rattle.model.specs.Lists.{all, tab}
use Rattle.model.specs.Values.{same_point, message_darts}
use Rattle.model.specs.Cells.{cycle}
use Rattle.model.specs.Image.{words_for, column, dart_in}
use Rattle.memory.specs.Point.{FiniteAt}
use Rattle.cells.specs.Places.{Within, Linked}

-- the points of the new dart at place p of the draft d agree with those of the dart at place w of the block that it meets
abbrev pub meet_at : List ℕ → List ℕ → ℕ → ℕ → Bool
meet_at m d p w = same_point (dart_in d p).point (dart_in m (column m 1 w)).point && same_point (dart_in m w).point (dart_in d (column d 1 p)).point

-- whether the face of the dart at place `start` has `size` darts; a yes leaves it in `trail`
pub record Walked (m : List ℕ) (start size : ℕ) (trail : List ℕ) (r : Bool) : Type 0 where
  pub len : size ≤ length trail
  pub said : r ≡ eqb size (length (cycle (column m 1) start))
  pub front : r ≡ true → take size trail ≡ cycle (column m 1) start

-- a sound block m of n darts and a draft d of k darts, whose place by message index is in `ranks`
pub record Meetable (m : List ℕ) (n : ℕ) (d : List ℕ) (k : ℕ) (ranks : List ℕ) : Type 0 where
  pub linked : Linked m n
  pub finite : (p : ℕ) → p < n → FiniteAt m p
  pub draft_size : words_for k ≤ length d
  pub few : k ≤ message_darts
  pub new_within : Within k (column d 1)
  pub new_finite : (p : ℕ) → p < k → FiniteAt d p
  pub ranks_size : k ≤ length ranks
  pub rank_below : (i : ℕ) → i < k → get_or ranks i 0 < k

-- the first `size` of a trail are places below n
pub record Trailed (n size : ℕ) (trail : List ℕ) : Type 0 where
  pub len : size ≤ length trail
  pub below : (j : ℕ) → j < size → get_or trail j 0 < n

-- dart j of a new face meets the first of a face, or the one j before the end
abbrev pub met_at : List ℕ → ℕ → ℕ → ℕ
met_at face size j = cond (eqb j 0) (get_or face 0 0) (get_or face (size - j) 0)

-- the points of dart j of the new face from index `at` on agree with those of the dart that it meets
abbrev pub meets_at : List ℕ → List ℕ → List ℕ → ℕ → ℕ → List ℕ → ℕ → Bool
meets_at m d ranks at size face j = meet_at m d (get_or ranks (at + j) 0) (met_at face size j)

-- the face of the dart at place y is critical with a block, of equal size, with agreeing points
abbrev pub entry_right : List ℕ → List ℕ → List ℕ → ℕ → ℕ → ℕ → ℕ → Bool
entry_right m d ranks from y at size = eqb (column m 3 y) (2 + 4 * from) && eqb size (length (cycle (column m 1) y)) && all (meets_at m d ranks at size (cycle (column m 1) y)) (tab (λ j. j) size)

-- a yes leaves the met face in `trail`
pub record EntryRight (m d ranks : List ℕ) (from y at size : ℕ) (trail : List ℕ) (r : Bool) : Type 0 where
  pub len : size ≤ length trail
  pub said : r ≡ entry_right m d ranks from y at size
  pub front : r ≡ true → take size trail ≡ cycle (column m 1) y
