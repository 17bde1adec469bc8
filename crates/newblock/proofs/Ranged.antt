-- Memory whose words are in range, and zero where nothing is stored, is memory in serials: what a reader that stores word by word has
-- to show. Assumes nothing.
use Rattle.std.proofs.Common.{◌≡◌, ℕ, zero, suc, ◌+◌, ◌-◌, ◌*◌, ◌/◌, ◌%◌, ◌^◌, ◌<◌, ◌≤◌, true, eqb, List, [], ◌∷◌, ◌++◌, map, length, get_or, replicate, sym, refl, ap, ◌∙◌, ⊎_elim, arith, ext_get_or, lt-ltb, le-leb}
use lib.ListN.{length-map}
use Rattle.laws.proofs.Tests.{by_cases, and_intro, lt_or_ge}
use Rattle.laws.proofs.Lists.{getD_zeros}
use Rattle.laws.proofs.Tables.{length_tab, getD_tab, all_tab, tab_all, map_tab, tab_ascending}
use Rattle.laws.proofs.Labels.{code_in}
use Rattle.model.specs.Lists.{concat}
use Rattle.model.specs.Values.{no_dart, Block, widest}
use Rattle.model.specs.Sound.{third_in_range, dart_in_range, ranges_right}
use Rattle.model.specs.Image.{words_for, column, third_in, dart_in, block_in}
use Rattle.theory.proofs.ImageLaws.{ranges_of}
use Rattle.columns.specs.Columns.{count, Kind, kind_free, kind_sewn, kind_critical, Ranged}
use Rattle.columns.proofs.Images.{in_order, ranges_yes}
use Rattle.columns.proofs.Thirds.{third_free, third_sewn, third_critical, kind_back}
use Rattle.codec.specs.Thirds.{named_by}
use Rattle.newblock.specs.Serials.{raw_words, raw, raw_dart, raw_block, InSerials}
use Rattle.newblock.proofs.Rows.{map_eights, past_rows, headed_at}
use Rattle.newblock.proofs.Stored.{raw_8}
use Rattle.newblock.proofs.Imaged.{raw_column, raw_length}

-- past the darts
raw_rest : (size : ℕ) (b : Block) (i : ℕ) → 8 + length b.darts * 8 ≤ i → get_or (raw size b) i 0 ≡ 0
unfolding raw
raw_rest size b i h =
    let head : List ℕ = b.number ∷ b.counter ∷ length b.darts ∷ 0 ∷ 0 ∷ 0 ∷ 0 ∷ 0 ∷ [] in
    let rows = map raw_words b.darts in
    let zeros : List ℕ = replicate (size - words_for (length b.darts)) 0 in
    let t : ℕ = i - (8 + length b.darts * 8) in
    let at : i ≡ 8 + (length rows * 8 + t) = omega (arith, length-map b.darts raw_words) in
    ap (λ (j : ℕ). get_or (head ++ (concat rows ++ zeros)) j 0) at ∙ headed_at head (concat rows ++ zeros) refl (length rows * 8 + t)
    ∙ past_rows rows (map_eights raw_words raw_8 b.darts) zeros t ∙ getD_zeros (size - words_for (length b.darts)) t

-- the serials do not matter for a third link's range
third_alike : (s t : ℕ → ℕ) (k a : ℕ) → third_in_range (third_in s k a) ≡ third_in_range (third_in t k a)
unfolding third_in
third_alike s t k a = by_cases (eqb (k % 4) 0) (λ e. rw e refl) (λ e. by_cases (eqb (k % 4) 1) (λ f. rw (e, f) refl) (λ f. rw (e, f) refl))

link_raw : (k a : ℕ) → Kind k a → named_by (third_in (λ s. s) k a) ≡ a
link_raw k a (kind_free e f) = rw (third_free (λ s. s) k a e) (sym f)
link_raw k a (kind_sewn e) = rw (third_sewn (λ s. s) k a e) refl
link_raw k a (kind_critical e f g) = rw (third_critical (λ s. s) k a e) (code_in a)

module _ (m : List ℕ) (w : Ranged m) where
  ranges : ranges_right widest (raw_block m) ≡ true
  unfolding ranges_right dart_in_range
  ranges = and_intro (and_intro (and_intro (and_intro (le-leb (get_or m 0 0) 15 (omega (arith, w.number_small))) (lt-ltb (get_or m 1 0) (2 ^ 32) w.counter_small))
      (rw (length_tab (raw_dart m) (count m)) (le-leb (count m) 4096 w.few)))
      (tab_all dart_in_range (raw_dart m) (count m) one))
      (rw (map_tab (λ d. d.serial) (raw_dart m) (count m)) (tab_ascending (column m 0) (count m) (in_order m w)))
    where
      alike : (p : ℕ) → dart_in_range (raw_dart m p) ≡ dart_in_range (dart_in m p)
      alike p = unfold dart_in_range in (rw (third_alike (λ s. s) (column m 0) (column m 3 p) (column m 4 p)) refl)

      one : (p : ℕ) → p < count m → dart_in_range (raw_dart m p) ≡ true
      one p h = alike p ∙ all_tab dart_in_range (dart_in m) (count m) (ranges_of widest (block_in m) (ranges_yes m w)).each_dart p h

  words_back : (p : ℕ) → p < count m → (f : ℕ) → f < 8 → get_or (raw_words (raw_dart m p)) f 0 ≡ column m f p
  unfolding raw_words
  words_back p h zero k = refl
  words_back p h (suc zero) k = refl
  words_back p h (suc (suc zero)) k = refl
  words_back p h (suc (suc (suc zero))) k = kind_back (λ s. s) (column m 3 p) (column m 4 p) (w.kinds p h)
  words_back p h (suc (suc (suc (suc zero)))) k = link_raw (column m 3 p) (column m 4 p) (w.kinds p h)
  words_back p h (suc (suc (suc (suc (suc zero))))) k = refl
  words_back p h (suc (suc (suc (suc (suc (suc zero)))))) k = refl
  words_back p h (suc (suc (suc (suc (suc (suc (suc zero))))))) k = refl
  words_back p h (suc (suc (suc (suc (suc (suc (suc (suc f)))))))) k = absurd (omega arith)

  column_back : (p f : ℕ) → p < count m → f < 8 → column (raw (length m) (raw_block m)) f p ≡ column m f p
  column_back p f h k = raw_column (length m) (raw_block m) p f (rw (length_tab (raw_dart m) (count m)) h) k
      ∙ rw (getD_tab (raw_dart m) (count m) p no_dart h) (words_back p h f k)

  dart_word : (i : ℕ) → 8 ≤ i → i < 8 + count m * 8 → get_or (raw (length m) (raw_block m)) i 0 ≡ get_or m i 0
  dart_word i a b =
      let at : i ≡ 8 + (i - 8) / 8 * 8 + (i - 8) % 8 = omega arith in
      let c = column_back ((i - 8) / 8) ((i - 8) % 8) (omega arith) (omega arith) in
      ap (λ (j : ℕ). get_or (raw (length m) (raw_block m)) j 0) at ∙ c ∙ ap (λ (j : ℕ). get_or m j 0) (sym at)

  later : (i : ℕ) → 8 ≤ i → get_or (raw (length m) (raw_block m)) i 0 ≡ get_or m i 0
  later i a = ⊎_elim (λ b. dart_word i a b)
      (λ b. raw_rest (length m) (raw_block m) i (rw (length_tab (raw_dart m) (count m)) b) ∙ sym (w.rest i b)) (lt_or_ge i (8 + count m * 8))

  word_back : (i : ℕ) → get_or (raw (length m) (raw_block m)) i 0 ≡ get_or m i 0
  unfolding raw
  word_back zero = refl
  word_back (suc zero) = refl
  word_back (suc (suc zero)) = length_tab (raw_dart m) (count m)
  word_back (suc (suc (suc zero))) = sym w.head.0
  word_back (suc (suc (suc (suc zero)))) = sym w.head.1
  word_back (suc (suc (suc (suc (suc zero))))) = sym w.head.2
  word_back (suc (suc (suc (suc (suc (suc zero)))))) = sym w.head.3
  word_back (suc (suc (suc (suc (suc (suc (suc zero))))))) = sym w.head.4
  word_back (suc (suc (suc (suc (suc (suc (suc (suc i)))))))) = later (suc (suc (suc (suc (suc (suc (suc (suc i)))))))) (omega arith)

  pub ranged_serials : words_for (count m) ≤ length m → InSerials m
  ranged_serials long = record {
    fits = long;
    words_are = ext_get_or 0 (raw (length m) (raw_block m)) m (raw_length (length m) (raw_block m) (rw (length_tab (raw_dart m) (count m)) long)) (λ i h. word_back i);
    ranges = ranges;
  }
