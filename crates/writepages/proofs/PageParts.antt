-- A page by its lines and all pages by each, as they are put one after the other. Assumes nothing.
use mathlib.Core.Path.{◌≡◌, refl, sym, ◌∙◌, ap}
use mathlib.Core.Bool.{true}
use mathlib.Core.List.{List, [], ◌∷◌, ◌++◌}
use Prim.Native.Nat.{ℕ, ◌+◌, ◌*◌, ◌≤◌, ◌<◌}
use native.Mathlib.Numerals.{add-one}
use native.Mathlib.Omega.{arith}
use lib.ListN.{length, get_or}
use Rattle.model.specs.Lists.{concat, tab, concat_map}
use Rattle.model.specs.Values.{room}
use Rattle.model.specs.Image.{count_in, block_in, holds_block}
use Rattle.model.specs.Pages.{paged, page_rows, line_of, first_line, page_count, page, pages_text}
use Rattle.laws.proofs.Standings.{length_pieces}
use Rattle.theory.proofs.PageLaws.{line_length, count_least, total_small, page_first, page_length}
use Rattle.theory.proofs.PagedBlocks.{image_paged, rows_in, rows_length}
use Rattle.groups.specs.Slices.{Stored}
use Rattle.groups.proofs.Writing.{stored_then}
use Rattle.savefile.proofs.Pieces.{pieces, in_pieces, Placing, place_none, place_fits}

-- PIECES OF ONE LENGTH, put one after the other
whole : (ls : List (List ℕ)) → concat ls ≡ concat_map (λ l. l) ls
unfolding concat
whole [] = refl
whole (l ∷ ls) = ap (λ (t : List ℕ). l ++ t) (whole ls)

pub concat_pieces : (f : ℕ → List ℕ) (n : ℕ) → concat (tab f n) ≡ pieces f n
concat_pieces f n = whole (tab f n) ∙ in_pieces (λ l. l) f n

module _ (f : ℕ → List ℕ) (k n : ℕ) (each : (i : ℕ) → i < n → length (f i) ≡ k) where
  pub place_even : (at : ℕ) (l : List ℕ) → at + k * n ≤ length l → Placing f n at l l at 0
  place_even at l h = place_none f n at l (omega (arith, ap length (concat_pieces f n), length_pieces f k n each))

  -- there is room for the next
  pub place_next : {at past i : ℕ} {l out : List ℕ} → Placing f n at l out past i → i < n → past + k ≤ length out
  place_next {i = i} w h = omega (arith, place_fits w h, each i h)

-- the lines behind a first line
abbrev pub lines_from : List ℕ → ℕ → ℕ → List ℕ
lines_from m first i = line_of (rows_in m) (first + i)

module _ (m : List ℕ) (e : holds_block m ≡ true) where
  pub line_wide : (first i : ℕ) → i < page_rows → length (lines_from m first i) ≡ 81
  line_wide first i h = line_length (rows_in m) (image_paged m e).each (first + i)

  -- of so many pages
  module _ {pages : ℕ} (p : pages ≡ page_count (count_in m)) where
    same_count : page_count (length (rows_in m)) ≡ pages
    same_count = ap page_count (rows_length m) ∙ sym p

    pub few_pages : pages ≤ 70
    few_pages = omega (arith, same_count, total_small (image_paged m e))

    -- the place of a page's first row
    pub row_first : (k : ℕ) → k < pages → page_rows * k ≤ room
    row_first k h = omega (arith, count_least (count_in m), rows_length m, (image_paged m e).few)

    pub first_wide : (k : ℕ) → k < pages → length (first_line (get_or m 0 0) (k + 1) pages) ≡ 81
    first_wide k h = rw (add-one k, ← same_count) (page_first (image_paged m e) k (omega (arith, same_count)))

    pub page_wide : (k : ℕ) → k < pages → length (page (paged (block_in m)) k) ≡ 4860
    page_wide k h = page_length (image_paged m e) k (omega (arith, same_count))

-- A PAGE: its first line, and the others
pub page_stored : (m : List ℕ) (k : ℕ) {pages : ℕ} {l s t : List ℕ} {at mid next : ℕ} → pages ≡ page_count (count_in m)
    → Stored l at (first_line (get_or m 0 0) (k + 1) pages) s mid → Stored s mid (concat (tab (lines_from m (page_rows * k)) page_rows)) t next → Stored l at (page (paged (block_in m)) k) t next
unfolding page
page_stored m k e p q = rw (rows_length m, ← e, ← add-one k) (stored_then p q)

-- ALL PAGES
pub pages_stored : (m : List ℕ) {pages : ℕ} {l s : List ℕ} {next : ℕ} → pages ≡ page_count (count_in m) → Stored l 0 (pieces (page (paged (block_in m))) pages) s next
    → Stored l 0 (pages_text (paged (block_in m))) s next
unfolding pages_text
pages_stored m {pages} e p = rw (rows_length m, ← e, concat_pieces (page (paged (block_in m))) pages) p
