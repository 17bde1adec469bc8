-- Whole pages: their first lines, the lines without a dart, the rows stored, and what is read. Assumes nothing.
use Rattle.std.specs.Prelude.{◌≡◌, Bool, true, false, List, map, ℕ, suc, ◌*◌, ◌≤◌, ◌<◌, drop}
use Rattle.std.proofs.Math.Option.{some}
use Rattle.laws.specs.Order.{Ascending}
use Rattle.laws.specs.Standing.{Stands}
use Rattle.model.specs.Lists.{tab, is_some}
use Rattle.model.specs.Values.{Block, Limits}
use Rattle.model.specs.Image.{words_of}
use Rattle.model.specs.Layouts.{whole}
use Rattle.model.specs.Pages.{Row, Paged, dart_of, first_line, blank_line, row_line, row_from, row_place, row_ok, pages}
use Rattle.newblock.specs.Serials.{raw, stored_all}

abbrev pub FirstsStand : List ℕ → ℕ → ℕ → Type 0
FirstsStand s number total = (k : ℕ) → k < total → Stands s (4860 * k) (first_line number (suc k) total)

abbrev pub RestBlank : List ℕ → ℕ → ℕ → Type 0
RestBlank s n most = (i : ℕ) → n ≤ i → i < most → Stands s (row_place i) blank_line

-- what the columns of row i say
abbrev pub row_at : List ℕ → ℕ → Row
row_at s i = row_from (drop (row_place i) s)

-- the first n lines are the rows of f, in ascending serial
pub record RowsAt (s : List ℕ) (n : ℕ) (f : ℕ → Row) : Type 0 where
  pub ok : (i : ℕ) → i < n → row_ok (f i) ≡ true
  pub stands : (i : ℕ) → i < n → Stands s (row_place i) (row_line (f i))
  pub ascends : Ascending n (λ i. (f i).serial)

pub record Filled (s : List ℕ) (n : ℕ) (m after : List ℕ) : Type 0 where
  pub rows : RowsAt s n (row_at s)
  pub memory : after ≡ stored_all m (tab (λ i. dart_of (row_at s i)) n)

abbrev pub RowsStored : List ℕ → ℕ → List ℕ → List ℕ → Bool → Type 0
RowsStored s n m after true = Filled s n m after
RowsStored s n m after false = (f : ℕ → Row) → RowsAt s n f → ⊥

-- the block of the pages, its counter still 0
abbrev pub uncounted : Paged → Block
uncounted w = record { number = w.number; counter = 0; darts = map dart_of w.rows }

pub record RawRead (lim : Limits) (s after : List ℕ) (r : Bool) : Type 0 where
  pub answer : r ≡ is_some (whole (pages lim) s)
  pub memory : (w : Paged) → whole (pages lim) s ≡ some w → after ≡ raw (words_of lim) (uncounted w)
