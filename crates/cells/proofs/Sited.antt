-- A sound block's memory by place: links within the places, serials that ascend, and each link by place is the link by serial.
-- Assumes nothing.
use mathlib.Core.Path.{◌≡◌, refl, sym, ◌∙◌, ap, subst}
use mathlib.Core.Bool.{true}
use mathlib.Core.List.{List}
use Prim.Native.Nat.{ℕ, ◌%◌, ◌≤◌, ◌<◌}
use native.Mathlib.Omega.{arith}
use lib.ListN.{length, get_or, length-map}
use Rattle.model.specs.Lists.{tab, index_of, ascending}
use Rattle.model.specs.Values.{Third, free, sewn, critical, Dart, no_dart, widest, room}
use Rattle.model.specs.Cells.{dart_at, serials, held, next_in, opposite_in, third_at, previous_in}
use Rattle.model.specs.Sound.{links_right, thirds_right, link_right, third_right, dart_in_range}
use Rattle.model.specs.Image.{image, count_in, column, dart_in, block_in, dart_words, third_in, kind_word, link_word, holds_block}
use Rattle.laws.proofs.Tests.{all_at}
use Rattle.laws.proofs.Members.{In, ascending_distinct}
use Rattle.laws.specs.Order.{Ascending}
use Rattle.laws.proofs.Tables.{length_tab, getD_tab, map_tab, one_place, ascending_tab, dart_place, held_place}
use Rattle.theory.proofs.BlockLaws.{Links, links_from}
use Rattle.theory.proofs.ImageLaws.{links_held, Readable, readable_dart, column_is, place_back, image_is, count_fits, parts_of, ranges_of, Parts}
use Rattle.cells.specs.Places.{Within, Apart, Linked}

-- the darts that a block's memory holds
abbrev pub darts_in : List ℕ → List Dart
darts_in m = (block_in m).darts

-- what the laws of cells need of a block's memory
pub record Sited (m : List ℕ) : Type 0 where
  pub linked : Linked m (count_in m)
  pub ascends : Ascending (count_in m) (column m 0)
  pub next_is : (p : ℕ) → p < count_in m → column m 0 (column m 1 p) ≡ next_in (darts_in m) (column m 0 p)
  pub opposite_is : (p : ℕ) → p < count_in m → column m 0 (column m 2 p) ≡ opposite_in (darts_in m) (column m 0 p)
  pub third_is : (p : ℕ) → p < count_in m → third_at (darts_in m) (column m 0 p) ≡ third_in (column m 0) (column m 3 p) (column m 4 p)

module _ (m : List ℕ) (ok : holds_block m ≡ true) where
  back : image (length m) (block_in m) ≡ m
  back = (image_is widest m ok).0

  pub parts : Parts widest (block_in m)
  parts = parts_of widest (block_in m) (image_is widest m ok).1

  count_is : length (darts_in m) ≡ count_in m
  count_is = length_tab (dart_in m) (count_in m)

  few : count_in m ≤ room
  few = omega (arith, (ranges_of widest (block_in m) parts.ranges).few_darts, count_is)

  serials_are : serials (darts_in m) ≡ tab (column m 0) (count_in m)
  serials_are = map_tab (λ d. d.serial) (dart_in m) (count_in m)

  in_order : ascending (serials (darts_in m)) ≡ true
  in_order = (ranges_of widest (block_in m) parts.ranges).in_order

  ascends' : Ascending (count_in m) (column m 0)
  ascends' = ascending_tab (column m 0) (count_in m) (rw serials_are at in_order)

  links : Links (darts_in m)
  links = links_from (darts_in m) (ascending_distinct (serials (darts_in m)) in_order) parts.links

  pub dart_is : (p : ℕ) → p < count_in m → dart_at (darts_in m) (column m 0 p) ≡ dart_in m p
  dart_is p h = dart_place (dart_in m) (count_in m) p ascends' h

  pub read : (p : ℕ) → p < count_in m → Readable (darts_in m) (dart_in m p)
  unfolding links_right thirds_right
  read p h =
      let h' : p < length (darts_in m) = omega (arith, count_is) in
      let at : get_or (darts_in m) p no_dart ≡ dart_in m p = getD_tab (dart_in m) (count_in m) p no_dart h in
      subst (Readable (darts_in m)) at (readable_dart (darts_in m) (get_or (darts_in m) p no_dart)
      (all_at (link_right (darts_in m)) no_dart (darts_in m) p parts.links h')
      (all_at (λ d. third_right (darts_in m) d d.third) no_dart (darts_in m) p parts.thirds h')
      (all_at dart_in_range no_dart (darts_in m) p (ranges_of widest (block_in m) parts.ranges).each_dart h'))

  -- word f of the dart at a place
  pub word_is : (p f : ℕ) → p < count_in m → f < 8 → column m f p ≡ get_or (dart_words (serials (darts_in m)) (dart_in m p)) f 0
  word_is p f h k =
      let at : get_or (darts_in m) p no_dart ≡ dart_in m p = getD_tab (dart_in m) (count_in m) p no_dart h in
      ap (λ (l : List ℕ). column l f p) (sym back) ∙ column_is (length m) (block_in m) p f (omega (arith, count_is)) k
      ∙ ap (λ (d : Dart). get_or (dart_words (serials (darts_in m)) d) f 0) at

  -- the index of a serial that is held is a place
  index_below : (x : ℕ) → held (darts_in m) x ≡ true → index_of x (serials (darts_in m)) < count_in m
  index_below x h = omega (arith, (place_back x (serials (darts_in m)) h).1, length-map (darts_in m) (λ (d : Dart). d.serial), count_is)

  next_within' : Within (count_in m) (column m 1)
  unfolding dart_words
  next_within' p h = omega (arith, word_is p 1 h (omega arith), index_below (dart_in m p).next (read p h).next_held)

  opposite_within' : Within (count_in m) (column m 2)
  unfolding dart_words
  opposite_within' p h = omega (arith, word_is p 2 h (omega arith), index_below (dart_in m p).opposite (read p h).opposite_held)

  sewn_within' : (p : ℕ) → p < count_in m → column m 3 p % 4 ≡ 1 → column m 4 p < count_in m
  unfolding dart_words
  sewn_within' p h e = go (dart_in m p).third (word_is p 3 h (omega arith)) (word_is p 4 h (omega arith)) (read p h).third_held
    where
      go : (t : Third) → column m 3 p ≡ kind_word t → column m 4 p ≡ link_word (serials (darts_in m)) t → links_held (darts_in m) t ≡ true → column m 4 p < count_in m
      go free k w r = absurd (omega arith)
      go (sewn y) k w r = omega (arith, index_below y r)
      go (critical o l) k w r = absurd (omega arith)

  next_is' : (p : ℕ) → p < count_in m → column m 0 (column m 1 p) ≡ next_in (darts_in m) (column m 0 p)
  next_is' p h = sym (ap (λ (d : Dart). d.next) (dart_is p h))

  opposite_is' : (p : ℕ) → p < count_in m → column m 0 (column m 2 p) ≡ opposite_in (darts_in m) (column m 0 p)
  opposite_is' p h = sym (ap (λ (d : Dart). d.opposite) (dart_is p h))

  serial_held : (p : ℕ) → p < count_in m → In (column m 0 p) (serials (darts_in m))
  serial_held p h = held_place (dart_in m) (count_in m) p (column m 0 p) h refl

  next_apart' : Apart (count_in m) (column m 1)
  next_apart' p q hp hq e = one_place ascends' hp hq
      (sym (links.previous_next _ (serial_held p hp)) ∙ ap (previous_in (darts_in m)) (sym (next_is' p hp) ∙ ap (column m 0) e ∙ next_is' q hq) ∙ links.previous_next _ (serial_held q hq))

  opposite_apart' : Apart (count_in m) (column m 2)
  opposite_apart' p q hp hq e = one_place ascends' hp hq
      (sym (links.opposite_opposite _ (serial_held p hp))
      ∙ ap (opposite_in (darts_in m)) (sym (opposite_is' p hp) ∙ ap (column m 0) e ∙ opposite_is' q hq)
      ∙ links.opposite_opposite _ (serial_held q hq))

  -- question 2 says all of it
  pub sited : Sited m
  sited = record {
    linked = record {
      few = few;
      size = count_fits widest m ok;
      next_within = next_within';
      next_apart = next_apart';
      opposite_within = opposite_within';
      opposite_apart = opposite_apart';
      sewn_within = sewn_within';
    };
    ascends = ascends';
    next_is = next_is';
    opposite_is = opposite_is';
    third_is = λ p h. ap (λ (d : Dart). d.third) (dart_is p h);
  }
