-- The image of a block whose ranges are right is `Ranged`, whether its links are held or not. Assumes nothing.
use mathlib.Core.Path.{◌≡◌, refl, sym, ap, ◌∙◌}
use mathlib.Core.Bool.{true, ◌&&◌}
use mathlib.Core.List.{List}
use Prim.Native.Nat.{ℕ, zero, suc, ◌+◌, ◌*◌, ◌<◌, ◌^◌}
use native.Mathlib.Omega.{arith}
use lib.Dec.{leb, ltb}
use lib.ListN.{length, get_or}
use borrow.Author.Tests.{leb-true, ltb-true}
use Rattle.model.specs.Lists.{ascending}
use Rattle.model.specs.Values.{Third, free, sewn, critical, Dart, no_dart, Block, widest, serial_bound, code}
use Rattle.model.specs.Cells.{serials}
use Rattle.model.specs.Sound.{third_in_range, dart_in_range, ranges_right}
use Rattle.model.specs.Image.{kind_word, link_word, dart_words, image, column}
use Rattle.laws.proofs.Tests.{and_left, and_right, all_at}
use Rattle.laws.specs.Order.{Ascending}
use Rattle.laws.proofs.Tables.{map_tab, ascending_tab}
use Rattle.theory.proofs.ImageLaws.{tab_list, column_is, ranges_of}
use Rattle.columns.specs.Columns.{before, Kind, kind_free, kind_sewn, kind_critical, Ranged}
use Rattle.columns.proofs.Thirds.{with_critical}
use Rattle.columns.proofs.Images.{image_rest}

third_kind : (ss : List ℕ) (t : Third) → third_in_range t ≡ true → Kind (kind_word t) (link_word ss t)
unfolding code
third_kind ss free r = kind_free refl refl
third_kind ss (sewn y) r = kind_sewn refl
third_kind ss (critical o l) r =
    let two = leb o 15 && leb l.maker 15 in
    let three = two && ltb l.number (2 ^ 32) in
    let e3 = and_left three _ r in
    let e2 = and_left two _ e3 in
    let other = leb-true o 15 (and_left (leb o 15) _ e2) in
    let maker = leb-true l.maker 15 (and_right (leb o 15) _ e2) in
    let number = ltb-true l.number (2 ^ 32) (and_right two _ e3) in
    let position = leb-true l.position 4095 (and_right three _ r) in
    kind_critical (with_critical (2 + 4 * o) o refl) (omega (arith, other)) (omega (arith, maker, number, position))

module _ (size : ℕ) (b : Block) (r : ranges_right widest b ≡ true) where
  dart : ℕ → Dart
  dart p = get_or b.darts p no_dart

  in_range : (p : ℕ) → p < length b.darts → (leb 1 (dart p).serial && ltb (dart p).serial serial_bound && third_in_range (dart p).third) ≡ true
  unfolding dart dart_in_range
  in_range p h = all_at dart_in_range no_dart b.darts p (ranges_of widest b r).each_dart h

  ascends : Ascending (length b.darts) (λ p. (dart p).serial)
  unfolding dart
  ascends = ascending_tab (λ p. (get_or b.darts p no_dart).serial) (length b.darts) (ap ascending (sym (map_tab (λ (d : Dart). d.serial) (λ p. get_or b.darts p no_dart) (length b.darts)))
      ∙ ap (λ (ds : List Dart). ascending (serials ds)) (tab_list no_dart b.darts (λ p. get_or b.darts p no_dart) (λ p h. refl)) ∙ (ranges_of widest b r).in_order)

  word : (f p : ℕ) → p < length b.darts → f < 8 → column (image size b) f p ≡ get_or (dart_words (serials b.darts) (dart p)) f 0
  unfolding dart
  word f p h k = column_is size b p f h k

  serial_at : (p : ℕ) → p < length b.darts → column (image size b) 0 p ≡ (dart p).serial
  unfolding dart_words
  serial_at p h = word 0 p h (omega arith)

  above_at : (p : ℕ) → p < length b.darts → before (column (image size b) 0) p < column (image size b) 0 p
  above_at zero h =
      rw (serial_at 0 h)
      (omega (
        arith,
        leb-true 1 (dart 0).serial
            (and_left (leb 1 (dart 0).serial) _
            (and_left (leb 1 (dart 0).serial && ltb (dart 0).serial serial_bound) _ (in_range 0 h))),
      ))
  above_at (suc p) h = rw (serial_at p (omega arith), serial_at (suc p) h) (ascends p (suc p) (omega arith) h)

  kind_at : (p : ℕ) → p < length b.darts → Kind (column (image size b) 3 p) (column (image size b) 4 p)
  unfolding dart_words
  kind_at p h =
      rw (word 3 p h (omega arith), word 4 p h (omega arith))
      (third_kind (serials b.darts) (dart p).third
      (and_right (leb 1 (dart p).serial && ltb (dart p).serial serial_bound) _ (in_range p h)))

  pub built : Ranged (image size b)
  unfolding image
  built = record {
    number_small = omega (arith, (ranges_of widest b r).number_small);
    counter_small = (ranges_of widest b r).counter_small;
    few = (ranges_of widest b r).few_darts;
    head = (refl, refl, refl, refl, refl);
    above = above_at;
    serial_small =
        λ p h. rw (serial_at p h)
        (ltb-true (dart p).serial serial_bound (and_right (leb 1 (dart p).serial) _ (and_left (leb 1 (dart p).serial && ltb (dart p).serial serial_bound) _ (in_range p h))));
    kinds = kind_at;
    rest = λ i h. image_rest size b i h;
  }
