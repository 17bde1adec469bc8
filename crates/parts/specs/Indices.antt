-- The indices of the parts, by the starts of faces. Assumes nothing.
use Rattle.std.specs.Prelude.{◌≡◌, Bool, cond, not, ◌&&◌, ◌||◌, List, [], ◌++◌, ℕ, ◌-◌, ltb, eqb, length, get_or}
use Rattle.model.specs.Lists.{all, mem, ascending, tab}

-- the index of entry e is above the one before
abbrev pub above_at : List ℕ → ℕ → Bool
above_at indices e = eqb e 0 || ltb (get_or indices (e - 1) 0) (get_or indices e 0)

-- the index of entry e names one of the k darts, is above the one before, starts a face, and is not marked
abbrev pub fits_at : List ℕ → List ℕ → List ℕ → ℕ → ℕ → Bool
fits_at indices b marks k e = ltb (get_or indices e 0) k && above_at indices e && (eqb (get_or b (get_or indices e 0) 0) (get_or indices e 0) && eqb (get_or marks (get_or indices e 0) 0) 0)

-- whether those of the first c entries do
pub record FitTold (indices b marks : List ℕ) (k c : ℕ) (r : Bool) : Type 0 where
  pub said : r ≡ all (fits_at indices b marks k) (tab (λ e. e) c)

-- indices marked, beside what was
pub record MarkedBy (indices marks marks' : List ℕ) : Type 0 where
  pub size : length marks' ≡ length marks
  pub each : (q : ℕ) → get_or marks' q 0 ≡ cond (mem q indices) 1 (get_or marks q 0)

-- i starts a face of k darts
abbrev pub starts_at : List ℕ → ℕ → ℕ → Bool
starts_at b k i = ltb i k && eqb (get_or b i 0) i

-- the indices of a part: starts that ascend, none of them one of others
abbrev pub part_fits : List ℕ → ℕ → List ℕ → List ℕ → Bool
part_fits b k others l = all (starts_at b k) l && ascending l && all (λ i. not (mem i others)) l

-- the indices of the three parts
abbrev pub indices_fit : List ℕ → ℕ → List ℕ → List ℕ → List ℕ → Bool
indices_fit b k l2 l3 l4 = part_fits b k [] l2 && part_fits b k l2 l3 && part_fits b k (l2 ++ l3) l4
