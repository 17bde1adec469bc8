-- The pages of a block in memory: in range, and its lines by place. Assumes nothing.
use mathlib.Core.Path.{◌≡◌, ◌∙◌, ap}
use mathlib.Core.Bool.{true}
use mathlib.Core.List.{List}
use Prim.Native.Nat.{ℕ, ◌≤◌, ◌<◌}
use native.Mathlib.Omega.{arith}
use lib.ListN.{length, get_or, length-map}
use borrow.Author.Tests.{lt-ltb, le-ltb}
use Rattle.model.specs.Lists.{tab}
use Rattle.model.specs.Values.{widest}
use Rattle.model.specs.Image.{count_in, dart_in, block_in, holds_block}
use Rattle.model.specs.Pages.{Row, no_row, row_of, paged, row_line, blank_line, line_of}
use Rattle.laws.proofs.Tables.{length_tab, getD_tab, map_tab}
use Rattle.theory.proofs.ImageLaws.{image_is}
use Rattle.theory.proofs.PageLaws.{PagedSmall, paged_small}
use Rattle.theory.proofs.PagesExact.{sound_paged}

pub image_paged : (m : List ℕ) → holds_block m ≡ true → PagedSmall (paged (block_in m))
image_paged m e = paged_small widest (omega arith) (paged (block_in m)) (sound_paged widest (block_in m) (image_is widest m e).1)

-- THE BLOCK IN MEMORY, by place
abbrev pub rows_in : List ℕ → List Row
rows_in m = (paged (block_in m)).rows

pub rows_are : (m : List ℕ) → rows_in m ≡ tab (λ p. row_of (dart_in m p)) (count_in m)
rows_are m = map_tab row_of (dart_in m) (count_in m)

pub rows_length : (m : List ℕ) → length (rows_in m) ≡ count_in m
rows_length m = length-map (tab (dart_in m) (count_in m)) row_of ∙ length_tab (dart_in m) (count_in m)

module _ (m : List ℕ) (i : ℕ) where
  pub line_row : i < count_in m → line_of (rows_in m) i ≡ row_line (row_of (dart_in m i))
  unfolding line_of
  line_row h =
      let here : i < length (rows_in m) = omega (arith, rows_length m) in
      let row : get_or (rows_in m) i no_row ≡ row_of (dart_in m i) = rw (rows_are m) (getD_tab (λ p. row_of (dart_in m p)) (count_in m) i no_row h) in
      rw (lt-ltb i (length (rows_in m)) here) (ap row_line row)

  pub line_none : count_in m ≤ i → line_of (rows_in m) i ≡ blank_line
  unfolding line_of
  line_none h = let past : length (rows_in m) ≤ i = omega (arith, rows_length m) in rw (le-ltb i (length (rows_in m)) past)
