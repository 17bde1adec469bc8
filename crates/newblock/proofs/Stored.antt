-- Darts stored one after the other, with serials: zeros with the darts of a block and its header are the block with serials.
-- Assumes nothing.
use Rattle.std.proofs.Common.{◌≡◌, ℕ, ◌+◌, ◌-◌, ◌*◌, ◌≤◌, List, [], ◌∷◌, ◌++◌, map, length, take, drop, replicate, sym, refl, ap, ◌∙◌, arith, length-take-le, drop_at}
use lib.ListN.{length-replicate, length-map}
use Rattle.laws.proofs.Members.{map_append}
use Rattle.laws.proofs.Lists.{drop_zeros}
use Rattle.model.specs.Lists.{concat}
use Rattle.model.specs.Values.{Dart, Block}
use Rattle.model.specs.Image.{words_for}
use Rattle.memory.specs.Header.{header_words}
use Rattle.memory.specs.Record.{put}
use Rattle.newblock.specs.Serials.{raw_words, raw, behind, stored_all}
use Rattle.newblock.proofs.Rows.{Eights, map_eights, behind_length, behind_more}

pub raw_8 : (d : Dart) → length (raw_words d) ≡ 8
unfolding raw_words
raw_8 d = refl

-- ONE MORE STORED
module _ (m : List ℕ) (ds : List Dart) (h : 8 + length ds * 8 ≤ length m) where
  eights : Eights (map raw_words ds)
  eights = map_eights raw_words raw_8 ds

  rows_fit : 8 + length (map raw_words ds) * 8 ≤ length m
  rows_fit = omega (arith, length-map ds raw_words)

  pub stored_length : length (stored_all m ds) ≡ length m
  stored_length = behind_length m (map raw_words ds) eights rows_fit

  pub stored_more : (d : Dart) (i : ℕ) → length ds ≡ i → put (stored_all m ds) i (raw_words d) ≡ stored_all m (ds ++ d ∷ [])
  stored_more d i e = behind_more m (map raw_words ds) eights rows_fit (raw_words d) i (length-map ds raw_words ∙ e) ∙ ap (behind m) (sym (map_append raw_words ds (d ∷ [])))

-- ALL, in memory of zeros
pub zeros_length : (w : ℕ) (m : List ℕ) → m ≡ replicate w 0 → length m ≡ w
zeros_length w m e = ap length e ∙ length-replicate w 0

pub stored_raw : (w : ℕ) (m : List ℕ) (b : Block) → m ≡ replicate w 0 → words_for (length b.darts) ≤ w
    → header_words (record { number = b.number; counter = b.counter; darts = length b.darts }) ++ drop 8 (stored_all m b.darts) ≡ raw w b
unfolding behind raw
stored_raw w m b em h =
    let l : length (take 8 m) ≡ 8 = length-take-le 8 m (omega (arith, zeros_length w m em)) in
    let rows = map raw_words b.darts in
    let rest : drop (8 + length rows * 8) m ≡ replicate (w - words_for (length b.darts)) 0 =
    ap (drop (8 + length rows * 8)) em ∙ drop_zeros (8 + length rows * 8) (w - words_for (length b.darts)) w (omega (arith, length-map b.darts raw_words)) in
    rw (drop_at (take 8 m) (concat rows ++ drop (8 + length rows * 8) m) 8 l, rest) refl
