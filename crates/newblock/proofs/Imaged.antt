-- Memory with serials, resolved, is the image of the block that it stands for; what has the words of a block stands for it. Assumes nothing.
use Rattle.std.proofs.Common.{◌≡◌, ℕ, ◌+◌, ◌-◌, ◌*◌, ◌/◌, ◌^◌, ◌<◌, ◌≤◌, true, ◌&&◌, ltb, leb, List, [], ◌∷◌, ◌++◌, map, length, get_or, replicate, sym, refl, ap, ◌∙◌, add_assoc, arith, length-append, drop_at, ltb-true, leb-true}
use lib.ListN.{length-replicate, length-map}
use lib.Seq.{drop-append-add}
use Rattle.laws.specs.Order.{Ascending}
use Rattle.laws.proofs.Tests.{and_left, and_right, all_at}
use Rattle.laws.proofs.Maps.{map_at}
use Rattle.laws.proofs.Tables.{ascending_tab, length_tab}
use Rattle.model.specs.Lists.{tab, concat, ascending}
use Rattle.model.specs.Values.{Third, free, sewn, critical, Dart, no_dart, Block, widest, serial_bound, code}
use Rattle.model.specs.Cells.{serials}
use Rattle.model.specs.Sound.{third_in_range, dart_in_range, ranges_right}
use Rattle.model.specs.Image.{words_for, kind_word, link_word, dart_words, image, count_in, column, third_in}
use Rattle.theory.proofs.ImageLaws.{tab_list, getD_serial, label_back, ranges_of, image_length}
use Rattle.columns.specs.Columns.{count, Ranged}
use Rattle.columns.proofs.Built.{built}
use Rattle.columns.proofs.Thirds.{critical_unsewn, with_critical, third_critical}
use Rattle.codec.specs.Thirds.{named_by}
use Rattle.newblock.specs.Serials.{raw_words, raw, raw_dart, raw_block, InSerials, behind}
use Rattle.newblock.specs.Places.{place_link, place_words, serials_in, resolved}
use Rattle.newblock.proofs.Rows.{Eights, map_eights, rows_length, row_at, headed_at}
use Rattle.newblock.proofs.Stored.{raw_8}

link_placed : (ss : List ℕ) (t : Third) → place_link ss (kind_word t) (named_by t) ≡ link_word ss t
link_placed ss free = refl
link_placed ss (sewn y) = refl
link_placed ss (critical o l) = rw (critical_unsewn (2 + 4 * o) (with_critical (2 + 4 * o) o refl)) refl

-- a third link is read back from its words
third_raw : (t : Third) → third_in_range t ≡ true → third_in (λ s. s) (kind_word t) (named_by t) ≡ t
unfolding third_in
third_raw free r = refl
third_raw (sewn y) r = refl
third_raw (critical o l) r =
    let low = leb o 15 && leb l.maker 15 in
    let position = and_right (low && ltb l.number (2 ^ 32)) _ r in
    let number = and_right low _ (and_left (low && ltb l.number (2 ^ 32)) _ r) in
    let other : (2 + 4 * o) / 4 ≡ o = omega arith in
    third_critical (λ s. s) (2 + 4 * o) (code l) (with_critical (2 + 4 * o) o refl)
    ∙ rw (other, label_back l (ltb-true l.number (2 ^ 32) number) (leb-true l.position 4095 position)) refl

pub third_ranged : (b : Block) → ranges_right widest b ≡ true → (p : ℕ) → p < length b.darts → third_in_range (get_or b.darts p no_dart).third ≡ true
unfolding dart_in_range
third_ranged b r p h =
    let d = get_or b.darts p no_dart in
    and_right (leb 1 d.serial && ltb d.serial serial_bound) _ (all_at dart_in_range no_dart b.darts p (ranges_of widest b r).each_dart h)

module _ (size : ℕ) (b : Block) where
  abbrev ds : List Dart
  ds = b.darts

  abbrev head : List ℕ
  head = b.number ∷ b.counter ∷ length b.darts ∷ 0 ∷ 0 ∷ 0 ∷ 0 ∷ 0 ∷ []

  abbrev zeros : List ℕ
  zeros = replicate (size - words_for (length b.darts)) 0

  eights : Eights (map raw_words b.darts)
  eights = map_eights raw_words raw_8 b.darts

  -- THE WORDS
  pub raw_column : (p f : ℕ) → p < length b.darts → f < 8 → column (raw size b) f p ≡ get_or (raw_words (get_or b.darts p no_dart)) f 0
  unfolding raw
  raw_column p f h k =
      ap (λ (i : ℕ). get_or (head ++ (concat (map raw_words ds) ++ zeros)) i 0) (add_assoc 8 (p * 8) f) ∙ headed_at head (concat (map raw_words ds) ++ zeros) refl (p * 8 + f)
      ∙ row_at (map raw_words ds) eights zeros p f (omega (arith, length-map ds raw_words)) k ∙ ap (λ (r : List ℕ). get_or r f 0) (map_at raw_words no_dart [] ds p h)

  pub raw_count : count_in (raw size b) ≡ length b.darts
  unfolding raw
  raw_count = refl

  raw_serial : (p : ℕ) → p < length b.darts → column (raw size b) 0 p ≡ (get_or b.darts p no_dart).serial
  unfolding raw_words
  raw_serial p h = raw_column p 0 h (omega arith)

  pub raw_serials : serials_in (raw size b) ≡ serials b.darts
  raw_serials = ap (tab (column (raw size b) 0)) (raw_count ∙ sym (length-map ds (λ (d : Dart). d.serial))) ∙ tab_list 0 (serials ds) (column (raw size b) 0)
      (λ p h. let k : p < length ds = omega (arith, length-map ds (λ (d : Dart). d.serial)) in raw_serial p k ∙ sym (getD_serial ds p))

  words_placed : (p : ℕ) → p < length b.darts → place_words (serials_in (raw size b)) (raw size b) p ≡ dart_words (serials b.darts) (get_or b.darts p no_dart)
  unfolding place_words dart_words raw_words
  words_placed p h =
      rw (
        raw_serials,
        raw_column p 0 h (omega arith),
        raw_column p 1 h (omega arith),
        raw_column p 2 h (omega arith),
        raw_column p 3 h (omega arith),
        raw_column p 4 h (omega arith),
        raw_column p 5 h (omega arith),
        raw_column p 6 h (omega arith),
        raw_column p 7 h (omega arith),
        link_placed (serials ds) (get_or ds p no_dart).third,
      ) refl

  -- THE WHOLE
  behind_raw : (rows : List (List ℕ)) → length rows ≡ length b.darts → behind (raw size b) rows ≡ head ++ (concat rows ++ zeros)
  unfolding behind raw
  behind_raw rows e = ap (λ (l : List ℕ). head ++ (concat rows ++ l))
      (drop-append-add head (concat (map raw_words ds) ++ zeros) (length rows * 8)
      ∙ drop_at (concat (map raw_words ds)) zeros (length rows * 8) (omega (arith, rows_length (map raw_words ds) eights, length-map ds raw_words)))

  pub resolved_raw : resolved (raw size b) ≡ image size b
  unfolding image
  resolved_raw =
      let rows : tab (place_words (serials_in (raw size b)) (raw size b)) (get_or (raw size b) 2 0) ≡ map (dart_words (serials ds)) ds =
      ap (tab (place_words (serials_in (raw size b)) (raw size b))) (raw_count ∙ sym (length-map ds (dart_words (serials ds))))
      ∙ tab_list [] (map (dart_words (serials ds)) ds) (place_words (serials_in (raw size b)) (raw size b))
      (λ p h. let k : p < length ds = omega (arith, length-map ds (dart_words (serials ds))) in words_placed p k ∙ sym (map_at (dart_words (serials ds)) no_dart [] ds p k)) in
      ap (behind (raw size b)) rows ∙ behind_raw (map (dart_words (serials ds)) ds) (length-map ds (dart_words (serials ds)))

  pub raw_length : words_for (length b.darts) ≤ size → length (raw size b) ≡ size
  unfolding raw
  raw_length h = omega (
    arith,
    length-append (concat (map raw_words ds)) zeros,
    rows_length (map raw_words ds) eights,
    length-map ds raw_words,
    length-replicate {A = ℕ} (size - words_for (length ds)) 0,
  )

  -- BACK
  dart_back : (p : ℕ) → p < length b.darts → third_in_range (get_or b.darts p no_dart).third ≡ true → raw_dart (raw size b) p ≡ get_or b.darts p no_dart
  unfolding raw_words
  dart_back p h r =
      rw (
        raw_column p 0 h (omega arith),
        raw_column p 1 h (omega arith),
        raw_column p 2 h (omega arith),
        raw_column p 3 h (omega arith),
        raw_column p 4 h (omega arith),
        raw_column p 5 h (omega arith),
        raw_column p 6 h (omega arith),
        raw_column p 7 h (omega arith),
        third_raw (get_or ds p no_dart).third r,
      ) refl

  pub raw_back : ranges_right widest b ≡ true → raw_block (raw size b) ≡ b
  unfolding raw
  raw_back r = ap (λ (l : List Dart). record { number = b.number; counter = b.counter; darts = l })
      (tab_list no_dart ds (raw_dart (raw size b)) (λ p h. dart_back p h (third_ranged b r p h)))

  pub in_serials : ranges_right widest b ≡ true → words_for (length b.darts) ≤ size → InSerials (raw size b)
  in_serials r h = record {
    fits = omega (arith, raw_count, raw_length h);
    words_are = ap (λ (n : ℕ). raw n (raw_block (raw size b))) (raw_length h) ∙ ap (raw size) (raw_back r);
    ranges = ap (ranges_right widest) (raw_back r) ∙ r;
  }

-- MEMORY IN SERIALS
module _ {m : List ℕ} (w : InSerials m) where
  b : Block
  b = raw_block m

  in_range : ranges_right widest b ≡ true
  unfolding b
  in_range = w.ranges

  is_raw : raw (length m) b ≡ m
  unfolding b
  is_raw = w.words_are

  few : length b.darts ≡ count_in m
  unfolding b
  few = length_tab (raw_dart m) (count_in m)

  pub serials_ascend : Ascending (count_in m) (column m 0)
  serials_ascend = ascending_tab (column m 0) (count_in m)
      (ap (λ (x : List ℕ). ascending (serials_in x)) (sym is_raw) ∙ ap ascending (raw_serials (length m) b) ∙ (ranges_of widest b in_range).in_order)

  pub resolved_is : resolved m ≡ image (length m) (raw_block m)
  unfolding b
  resolved_is = ap resolved (sym is_raw) ∙ resolved_raw (length m) b

  module _ {x : List ℕ} (is_image : x ≡ image (length m) (raw_block m)) where
    pub image_long : length x ≡ length m
    unfolding b
    image_long = rw is_image (image_length (length m) b (omega (arith, few, w.fits)))

    pub image_ranged : Ranged x
    image_ranged = rw is_image (built (length m) (raw_block m) w.ranges)

    pub image_count : count x ≡ count_in m
    unfolding b image
    image_count = ap (λ (y : List ℕ). count y) is_image ∙ few

    pub image_fits : words_for (count x) ≤ length x
    unfolding b image
    image_fits = omega (arith, image_long, ap (λ (y : List ℕ). count y) is_image, few, w.fits)
