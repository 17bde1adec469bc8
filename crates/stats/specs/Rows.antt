-- The figures of each cell of a block, in order of least serial: a row of 19 words for each. Assumes nothing.
use Rattle.std.specs.Prelude.{Err, Ok, Result, cond, ◌&&◌, List, ◌++◌, ℕ, zero, suc, ◌*◌, leb, length, drop}
use Rattle.model.specs.Lists.{keep, tab, concat_map}
use Rattle.model.specs.Values.{Dart, is_critical_with}
use Rattle.model.specs.Cells.{start_of, third_at, volume_in, faces_in, volume_starts}
use Rattle.model.specs.Image.{block_in, holds_block}
use Rattle.stats.specs.declared.rows.Untold.{Untold}
use Rattle.stats.specs.declared.rows.Untold.TheVariants as untold

-- the faces of a cell that are critical with block o; all darts of a face are, or none is
abbrev pub border_with : List Dart → ℕ → ℕ → List (List ℕ)
border_with ds s o = keep (λ f. is_critical_with o (third_at ds (start_of f))) (faces_in ds s)

-- word j of the row of the cell whose least serial is s: the serial, its darts, its faces, those critical with block 0, 1, .., 15
unfoldable pub figure : List Dart → ℕ → ℕ → ℕ
figure ds s zero = s
figure ds s (suc zero) = length (volume_in ds s)
figure ds s (suc (suc zero)) = length (faces_in ds s)
figure ds s (suc (suc (suc o))) = length (border_with ds s o)

unfoldable pub rows_of : List Dart → List ℕ
rows_of ds = concat_map (λ s. tab (figure ds s) 19) (volume_starts ds)

-- how many words the rows of a block's cells are
abbrev pub row_words : List ℕ → ℕ
row_words m = 19 * length (volume_starts (block_in m).darts)

-- the rows of all cells, then what was there
unfoldable pub told_rows : List ℕ → List ℕ → List ℕ
told_rows m rows = rows_of (block_in m).darts ++ drop (row_words m) rows

-- THE ANSWER: how many cells, if the memory is a sound block's image and there is room for their rows
unfoldable pub cells_told : List ℕ → List ℕ → Result ℕ Untold
cells_told m rows =
    cond (holds_block m)
    (cond (leb (row_words m) (length rows)) (Ok (length (volume_starts (block_in m).darts))) (Err untold.Short))
    (Err untold.Unsound)

-- and the rows, untouched where nothing is told
unfoldable pub rows_after : List ℕ → List ℕ → List ℕ
rows_after m rows = cond (holds_block m && leb (row_words m) (length rows)) (told_rows m rows) rows
