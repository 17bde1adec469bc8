-- Question 3 of memory: memory that passes question 2 is `Ranged`; `Ranged` memory whose links are places is the image of the block
-- that is read from it, and that block's ranges are right. Assumes nothing.
use mathlib.Core.Path.{◌≡◌, refl, sym, ap, ◌∙◌}
use mathlib.Core.Bool.{true, ◌&&◌}
use mathlib.Core.List.{List, [], ◌∷◌, ◌++◌, map}
use mathlib.Core.Logic.{◌⊎◌, inl, inr, ⊎_elim}
use Prim.Native.Nat.{ℕ, zero, suc, ◌+◌, ◌*◌, ◌-◌, ◌/◌, ◌%◌, ◌≤◌, ◌<◌, ◌^◌}
use native.Mathlib.Omega.{arith}
use native.Mathlib.Nat.{eq-or-lt_of_le, le_of_suc-le-suc}
use lib.Dec.{leb, ltb, eqb}
use lib.ListN.{length, get_or, replicate}
use lib.Seq.{get_or-append-add, ext_get_or}
use borrow.Author.Tests.{le-leb, lt-ltb, leb-true, ltb-true}
use Rattle.model.specs.Lists.{all, tab, ascending, concat, index_of}
use Rattle.model.specs.Values.{free, sewn, critical, no_dart, Block, widest, serial_bound, room}
use Rattle.model.specs.Cells.{serials}
use Rattle.model.specs.Sound.{third_in_range, dart_in_range, ranges_right}
use Rattle.model.specs.Image.{words_for, kind_word, link_word, dart_words, image, column, is_sewn_word, label_in, third_in, dart_in, block_in}
use Rattle.laws.proofs.Tests.{by_cases, lt_or_ge, and_intro, and_left, and_right}
use Rattle.laws.proofs.Lists.{getD_zeros}
use Rattle.laws.specs.Order.{Ascending}
use Rattle.laws.proofs.Tables.{length_tab, getD_tab, all_tab, tab_all, map_tab, tab_ascending, ascending_tab, index_place}
use Rattle.theory.proofs.ImageLaws.{column_is, image_length, ranges_of, rows_length}
use Rattle.columns.specs.Columns.{count, before, Kind, kind_free, kind_sewn, kind_critical, Ranged, Places, SewnPlaces}
use Rattle.columns.proofs.Thirds.{with_critical, third_free, third_sewn, third_critical, kind_back, link_back}

-- serials each above the one before ascend
pub ascends : (s : ℕ → ℕ) (n : ℕ) → ((p : ℕ) → p < n → before s p < s p) → Ascending n s
ascends s n h i zero l u = absurd (omega arith)
ascends s n h i (suc j) l u = go (ascends s n h i j) (eq-or-lt_of_le (le_of_suc-le-suc l))
  where
    go : (i < j → j < n → s i < s j) → (i ≡ j) ⊎ (i < j) → s i < s (suc j)
    go r (inl q) = rw q (h (suc j) u)
    go r (inr q) = omega (arith, r q (omega arith), h (suc j) u)

pub in_order : (m : List ℕ) → Ranged m → Ascending (count m) (column m 0)
in_order m w = ascends (column m 0) (count m) w.above

-- THE REST OF AN IMAGE
pub image_rest : (size : ℕ) (b : Block) (i : ℕ) → 8 + length b.darts * 8 ≤ i → get_or (image size b) i 0 ≡ 0
unfolding image
image_rest size b i h =
    let head : List ℕ = b.number ∷ b.counter ∷ length b.darts ∷ 0 ∷ 0 ∷ 0 ∷ 0 ∷ 0 ∷ [] in
    let rows : List ℕ = concat (map (dart_words (serials b.darts)) b.darts) in
    let zeros : List ℕ = replicate (size - words_for (length b.darts)) 0 in
    let t : ℕ = i - (8 + length b.darts * 8) in
    let at : i ≡ 8 + (length rows + t) = omega (arith, rows_length (serials b.darts) b.darts) in
    ap (λ (j : ℕ). get_or (head ++ (rows ++ zeros)) j 0) at ∙ get_or-append-add head (rows ++ zeros) (length rows + t) 0 ∙ get_or-append-add rows zeros t 0 ∙ getD_zeros (size - words_for (length b.darts)) t

-- FROM AN IMAGE: word f of the dart at place p
module _ (m : List ℕ) where
  word_is : image (length m) (block_in m) ≡ m → (p f : ℕ) → p < count m → f < 8 → column m f p ≡ get_or (dart_words (tab (column m 0) (count m)) (dart_in m p)) f 0
  word_is e p f h k = ap (λ (x : List ℕ). column x f p) (sym e) ∙ column_is (length m) (block_in m) p f (rw (length_tab (dart_in m) (count m)) h) k
      ∙ rw (map_tab (λ d. d.serial) (dart_in m) (count m), getD_tab (dart_in m) (count m) p no_dart h) refl

  kind_of : (p : ℕ) → (ss : List ℕ) → third_in_range (dart_in m p).third ≡ true → column m 3 p ≡ kind_word (dart_in m p).third
      → column m 4 p ≡ link_word ss (dart_in m p).third → Kind (column m 3 p) (column m 4 p)
  unfolding third_in
  kind_of p ss r ek el = by_cases (eqb (k % 4) 0)
      (λ t. let e : (dart_in m p).third ≡ free = rw t refl in kind_free (ek ∙ ap kind_word e) (el ∙ ap (link_word ss) e))
      (λ t. by_cases (eqb (k % 4) 1)
      (λ u. let e : (dart_in m p).third ≡ sewn (column m 0 a) = rw (t, u) refl in kind_sewn (ek ∙ ap kind_word e))
      (λ u. let e : (dart_in m p).third ≡ critical (k / 4) (label_in a) = rw (t, u) refl in
      let in_range : third_in_range (critical (k / 4) (label_in a)) ≡ true = sym (ap third_in_range e) ∙ r in
      let two = leb (k / 4) 15 && leb (a / 4096 / 2 ^ 32) 15 in
      let three = and_left two _ (and_left (two && ltb (a / 4096 % 2 ^ 32) (2 ^ 32)) _ in_range) in
      let kw : k ≡ 2 + 4 * (k / 4) = ek ∙ ap kind_word e in
      let other = leb-true (k / 4) 15 (and_left (leb (k / 4) 15) _ three) in
      let maker = leb-true (a / 4096 / 2 ^ 32) 15 (and_right (leb (k / 4) 15) _ three) in
      kind_critical (with_critical k (k / 4) kw) (omega (arith, other)) (omega (arith, maker))))
    where
      k : ℕ
      k = column m 3 p

      a : ℕ
      a = column m 4 p

  pub ranged : count m ≤ room → image (length m) (block_in m) ≡ m → ranges_right widest (block_in m) ≡ true → Ranged m
  unfolding dart_in_range dart_words image
  ranged le e s =
      let r = ranges_of widest (block_in m) s in
      let asc : Ascending (count m) (column m 0) = ascending_tab (column m 0) (count m) (ap ascending (sym (map_tab (λ d. d.serial) (dart_in m) (count m))) ∙ r.in_order) in
      record {
        number_small = omega (arith, r.number_small);
        counter_small = r.counter_small;
        few = le;
        head =
            (ap (λ (x : List ℕ). get_or x 3 0) (sym e), ap (λ (x : List ℕ). get_or x 4 0) (sym e), ap (λ (x : List ℕ). get_or x 5 0) (sym e), ap (λ (x : List ℕ). get_or x 6 0) (sym e), ap (λ (x : List ℕ). get_or x 7 0) (sym e));
        above = λ p h. above asc p h (each p h r.each_dart);
        serial_small = λ p h. ltb-true (column m 0 p) (2 ^ 32) (and_right (leb 1 (column m 0 p)) _ (and_left (leb 1 (column m 0 p) && ltb (column m 0 p) (2 ^ 32)) _ (each p h r.each_dart)));
        kinds =
            λ p h. kind_of p (tab (column m 0) (count m))
            (and_right (leb 1 (column m 0 p) && ltb (column m 0 p) (2 ^ 32)) _ (each p h r.each_dart))
            (word_is e p 3 h (omega arith)) (word_is e p 4 h (omega arith));
        rest = λ i h. ap (λ (x : List ℕ). get_or x i 0) (sym e) ∙ image_rest (length m) (block_in m) i (rw (length_tab (dart_in m) (count m)) h);
      }
    where
      each : (p : ℕ) → p < count m → all dart_in_range (tab (dart_in m) (count m)) ≡ true → (leb 1 (column m 0 p) && ltb (column m 0 p) serial_bound && third_in_range (dart_in m p).third) ≡ true
      each p h t = all_tab dart_in_range (dart_in m) (count m) t p h

      above : Ascending (count m) (column m 0) → (p : ℕ) → p < count m
          → (leb 1 (column m 0 p) && ltb (column m 0 p) serial_bound && third_in_range (dart_in m p).third) ≡ true
          → before (column m 0) p < column m 0 p
      above asc zero h t = omega (arith, leb-true 1 (column m 0 0) (and_left (leb 1 (column m 0 0)) _ (and_left (leb 1 (column m 0 0) && ltb (column m 0 0) serial_bound) _ t)))
      above asc (suc p) h t = asc p (suc p) (omega arith) h

-- TO AN IMAGE
module _ (m : List ℕ) (w : Ranged m) where
  third_ranged : (k a : ℕ) → Kind k a → third_in_range (third_in (column m 0) k a) ≡ true
  third_ranged k a (kind_free e f) = rw (third_free (column m 0) k a e) refl
  third_ranged k a (kind_sewn e) = rw (third_sewn (column m 0) k a e) refl
  third_ranged k a (kind_critical e f g) = rw (third_critical (column m 0) k a e)
      (and_intro
      (and_intro (and_intro (le-leb (k / 4) 15 (omega arith)) (le-leb (a / 4096 / 2 ^ 32) 15 (omega arith)))
      (lt-ltb (a / 4096 % 2 ^ 32) (2 ^ 32) (omega arith))) (le-leb (a % 4096) 4095 (omega arith)))

  pub ranges_yes : ranges_right widest (block_in m) ≡ true
  unfolding ranges_right dart_in_range
  ranges_yes = and_intro (and_intro (and_intro (and_intro (le-leb (get_or m 0 0) 15 (omega (arith, w.number_small))) (lt-ltb (get_or m 1 0) (2 ^ 32) w.counter_small))
      (rw (length_tab (dart_in m) (count m)) (le-leb (count m) 4096 w.few)))
      (tab_all dart_in_range (dart_in m) (count m) one))
      (rw (map_tab (λ d. d.serial) (dart_in m) (count m)) (tab_ascending (column m 0) (count m) (in_order m w)))
    where
      one : (p : ℕ) → p < count m → dart_in_range (dart_in m p) ≡ true
      one p h =
          and_intro
          (and_intro (le-leb 1 (column m 0 p) (omega (arith, w.above p h))) (lt-ltb (column m 0 p) (2 ^ 32) (w.serial_small p h)))
          (third_ranged (column m 3 p) (column m 4 p) (w.kinds p h))

  module _ (long : words_for (count m) ≤ length m) (g : Places m (count m)) (s : SewnPlaces m (count m)) where
    place_back : (p : ℕ) → p < count m → index_of (column m 0 p) (tab (column m 0) (count m)) ≡ p
    place_back p h = index_place (column m 0) (count m) p (in_order m w) h

    words_back : (p : ℕ) → p < count m → (f : ℕ) → f < 8 → get_or (dart_words (tab (column m 0) (count m)) (dart_in m p)) f 0 ≡ column m f p
    unfolding dart_words
    words_back p h zero k = refl
    words_back p h (suc zero) k = place_back (column m 1 p) (g.next_lt p h)
    words_back p h (suc (suc zero)) k = place_back (column m 2 p) (g.opposite_lt p h)
    words_back p h (suc (suc (suc zero))) k = kind_back (column m 0) (column m 3 p) (column m 4 p) (w.kinds p h)
    words_back p h (suc (suc (suc (suc zero)))) k = link_back (column m 0) (tab (column m 0) (count m)) (column m 3 p) (column m 4 p) (w.kinds p h) (λ e. place_back (column m 4 p) (s p h (ap is_sewn_word e)))
    words_back p h (suc (suc (suc (suc (suc zero))))) k = refl
    words_back p h (suc (suc (suc (suc (suc (suc zero)))))) k = refl
    words_back p h (suc (suc (suc (suc (suc (suc (suc zero))))))) k = refl
    words_back p h (suc (suc (suc (suc (suc (suc (suc (suc f)))))))) k = absurd (omega arith)

    column_back : (p f : ℕ) → p < count m → f < 8 → column (image (length m) (block_in m)) f p ≡ column m f p
    column_back p f h k = column_is (length m) (block_in m) p f (rw (length_tab (dart_in m) (count m)) h) k
        ∙ rw (map_tab (λ d. d.serial) (dart_in m) (count m), getD_tab (dart_in m) (count m) p no_dart h) (words_back p h f k)

    dart_word : (i : ℕ) → 8 ≤ i → i < 8 + count m * 8 → get_or (image (length m) (block_in m)) i 0 ≡ get_or m i 0
    dart_word i a b =
        let at : i ≡ 8 + (i - 8) / 8 * 8 + (i - 8) % 8 = omega arith in
        let c = column_back ((i - 8) / 8) ((i - 8) % 8) (omega arith) (omega arith) in
        ap (λ (j : ℕ). get_or (image (length m) (block_in m)) j 0) at ∙ c ∙ ap (λ (j : ℕ). get_or m j 0) (sym at)

    later : (i : ℕ) → 8 ≤ i → get_or (image (length m) (block_in m)) i 0 ≡ get_or m i 0
    later i a = ⊎_elim (λ b. dart_word i a b) (λ b. image_rest (length m) (block_in m) i (rw (length_tab (dart_in m) (count m)) b) ∙ sym (w.rest i b)) (lt_or_ge i (8 + count m * 8))

    word_back : (i : ℕ) → get_or (image (length m) (block_in m)) i 0 ≡ get_or m i 0
    unfolding image
    word_back zero = refl
    word_back (suc zero) = refl
    word_back (suc (suc zero)) = length_tab (dart_in m) (count m)
    word_back (suc (suc (suc zero))) = sym w.head.0
    word_back (suc (suc (suc (suc zero)))) = sym w.head.1
    word_back (suc (suc (suc (suc (suc zero))))) = sym w.head.2
    word_back (suc (suc (suc (suc (suc (suc zero)))))) = sym w.head.3
    word_back (suc (suc (suc (suc (suc (suc (suc zero))))))) = sym w.head.4
    word_back (suc (suc (suc (suc (suc (suc (suc (suc i)))))))) = later (suc (suc (suc (suc (suc (suc (suc (suc i)))))))) (omega arith)

    pub image_back : image (length m) (block_in m) ≡ m
    image_back = ext_get_or 0 (image (length m) (block_in m)) m (image_length (length m) (block_in m) (rw (length_tab (dart_in m) (count m)) long)) (λ i h. word_back i)
