-- A block on pages, as dispatchers pin it up: its serials and links, without points and counter. Assumes nothing.
--   Row, Paged           a dart and a block as pages have them; paged, block_of: from a block, and to one
--   first_line, row_line, blank_line    the three kinds of line, 80 columns and a line feed each
--   page, pages_text     59 rows behind a first line; all pages
--   pages                the layout: `get` cuts by columns and takes nothing but what `put` gives
use Rattle.std.specs.Prelude.{Bool, cond, not, ◌&&◌, List, [], ◌∷◌, ◌++◌, map, ℕ, zero, suc, ◌+◌, ◌*◌, ◌-◌, ◌/◌, ◌%◌, max, leb, ltb, eqb, length, get_or, take, drop, replicate}
use Rattle.std.proofs.Math.Option.{Option, none, some}
use Rattle.model.specs.Lists.{all, ascending, concat, tab, same_list, Check}
use Rattle.model.specs.Values.{last_block, number_bound, serial_bound, Third, free, sewn, critical, Dart, no_point, Block, Limits}
use Rattle.model.specs.Text.{is_digit, decimal, third_text}
use Rattle.model.specs.Sound.{links_right, thirds_right, labels_right}
use Rattle.model.specs.Image.{new_block}
use Rattle.model.specs.Layouts.{Layout, when}
use Rattle.model.specs.Messages.{third_ok}

-- WHAT PAGES HAVE of a dart, "serial, next and opposite", "then the third link"; and of a block
pub record Row : Type 0 where
  pub serial : ℕ
  pub next : ℕ
  pub opposite : ℕ
  pub third : Third

pub record Paged : Type 0 where
  pub number : ℕ
  pub rows : List Row

abbrev pub row_of : Dart → Row
row_of d = record { serial = d.serial; next = d.next; opposite = d.opposite; third = d.third }

abbrev pub paged : Block → Paged
paged b = record { number = b.number; rows = map row_of b.darts }

-- "zero for what isn't given"
abbrev pub dart_of : Row → Dart
dart_of r = record { serial = r.serial; next = r.next; opposite = r.opposite; third = r.third; point = no_point }

-- "the least counter that its labels allow"
unfoldable pub block_of : Paged → Block
block_of w = new_block w.number (map dart_of w.rows)

abbrev pub no_row : Row
no_row = record { serial = 0; next = 0; opposite = 0; third = free }

abbrev pub no_pages : Paged
no_pages = record { number = 0; rows = [] }

-- NUMBERS OF A PAGE: "80 columns and 60 lines, each line ended by one line feed", of which all but the first have rows
abbrev pub page_rows : ℕ
page_rows = 59

abbrev pub line_bytes : ℕ
line_bytes = 81

abbrev pub page_bytes : ℕ
page_bytes = 4860

abbrev pub number_columns : ℕ
number_columns = 10

abbrev pub third_columns : ℕ
third_columns = 48

-- LINES
abbrev pub blanks : ℕ → List ℕ
blanks n = replicate n 32

abbrev pub line_feed : List ℕ
line_feed = 10 ∷ []

-- "right-aligned in 10 columns"
unfoldable pub number_column : ℕ → List ℕ
number_column v = blanks (number_columns - length (decimal v)) ++ decimal v

-- "the third link as in the listing, padded with blanks to 48"
unfoldable pub third_column : Third → List ℕ
third_column t = third_text t ++ blanks (third_columns - length (third_text t))

-- "The first line has block, page (from 1) and page count right-aligned in 10 columns each, then 50 blanks"
unfoldable pub first_line : ℕ → ℕ → ℕ → List ℕ
first_line number page count = number_column number ++ number_column page ++ number_column count ++ blanks 50 ++ line_feed

-- "serial, next and opposite right-aligned in 10 columns each, two blanks, then the third link"
unfoldable pub row_line : Row → List ℕ
row_line r = number_column r.serial ++ number_column r.next ++ number_column r.opposite ++ blanks 2 ++ third_column r.third ++ line_feed

-- "lines of 80 blanks"
unfoldable pub blank_line : List ℕ
blank_line = blanks 80 ++ line_feed

-- PAGES, "filled in turn, the last made up with lines of 80 blanks"
unfoldable pub line_of : List Row → ℕ → List ℕ
line_of rows i = cond (ltb i (length rows)) (row_line (get_or rows i no_row)) blank_line

-- "an empty block gives one page"
unfoldable pub page_count : ℕ → ℕ
page_count n = max 1 ((n + 58) / page_rows)

-- page k, from 0
unfoldable pub page : Paged → ℕ → List ℕ
page w k = first_line w.number (suc k) (page_count (length w.rows)) ++ concat (tab (λ r. line_of w.rows (page_rows * k + r)) page_rows)

unfoldable pub pages_text : Paged → List ℕ
pages_text w = concat (tab (page w) (page_count (length w.rows)))

-- READ BACK: what the columns would say, whatever the bytes are
-- the number of some columns: a blank counts as 0
abbrev pub number_from : ℕ → List ℕ → ℕ
number_from v [] = v
number_from v (c ∷ cs) = number_from (10 * v + (c - 48)) cs

abbrev pub number_at : List ℕ → ℕ → ℕ
number_at cs at = number_from 0 (take number_columns (drop at cs))

-- the numbers of a text, each ended by a byte that is no digit
unfoldable pub numbers_from : ℕ → List ℕ → List ℕ
numbers_from v [] = v ∷ []
numbers_from v (c ∷ cs) = let more = numbers_from (10 * v + (c - 48)) cs in let next = v ∷ numbers_from 0 cs in cond (is_digit c) more next

-- a third link by its first letter, and by the numbers behind five letters
unfoldable pub third_from : List ℕ → Third
third_from cs =
    let ns = numbers_from 0 (drop 5 cs) in
    let label : Third = critical (get_or ns 0 0) (record { maker = get_or ns 1 0; number = get_or ns 2 0; position = get_or ns 3 0 }) in
    cond (eqb (get_or cs 0 0) 102) free (cond (eqb (get_or cs 0 0) 115) (sewn (get_or ns 0 0)) label)

unfoldable pub row_from : List ℕ → Row
row_from cs = record { serial = number_at cs 0; next = number_at cs 10; opposite = number_at cs 20; third = third_from (take third_columns (drop 32 cs)) }

-- where row i stands, and whether it has a serial: the last of ten columns is no blank
abbrev pub row_place : ℕ → ℕ
row_place i = page_bytes * (i / page_rows) + line_bytes * suc (i % page_rows)

abbrev pub has_row : List ℕ → ℕ → Bool
has_row bs i = not (eqb (get_or bs (row_place i + 9) 32) 32)

-- how many pass from the first on, n at the most
abbrev pub run : (ℕ → Bool) → ℕ → ℕ
run p zero = 0
run p (suc n) = cond (p 0) (suc (run (λ i. p (suc i)) n)) 0

unfoldable pub paged_from : List ℕ → Paged
paged_from bs = record {
  number = number_at bs 0;
  rows = tab (λ i. row_from (drop (row_place i) bs)) (run (has_row bs) (page_rows * number_at bs 20));
}

-- THE LAYOUT. Its ranges are those of a file: block and makers at most 15, own serials at least 1 and ascending, and so on; "more darts
-- than may be" are none
abbrev pub row_ok : Row → Bool
row_ok r = leb 1 r.serial && ltb r.serial serial_bound && ltb r.next serial_bound && ltb r.opposite serial_bound && third_ok r.third

unfoldable pub paged_ok : Limits → Paged → Bool
paged_ok lim w = leb w.number last_block && leb (length w.rows) lim.block_darts && all row_ok w.rows && ascending (map (λ r. r.serial) w.rows)

-- "The reader cuts by columns and takes exactly what the writer gives"
unfoldable pub pages : Limits → Layout Paged
pages lim = record {
  ok = paged_ok lim;
  put = pages_text;
  get = λ bs. let w = paged_from bs in let text = pages_text w in
      when (paged_ok lim w && same_list (take (length text) bs) text) (some (w, drop (length text) bs));
}

abbrev pub or_no_pages : Option Paged → Paged
or_no_pages none = no_pages
or_no_pages (some w) = w

-- 5 to 7 of the block that pages have; its counter "if that is 2^32, 7"
unfoldable pub paged_checks : Block → List Check
paged_checks b = (5, links_right b.darts) ∷ (6, thirds_right b.darts) ∷ (7, labels_right b && ltb b.counter number_bound) ∷ []
