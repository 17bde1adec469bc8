-- The lines of pages: first lines, lines without a dart, and how many rows there are. Assumes nothing.
use mathlib.Core.Path.{◌≡◌, refl, sym, ◌∙◌}
use mathlib.Core.Bool.{Bool, true, false, ◌||◌}
use mathlib.Core.List.{List, ◌++◌}
use mathlib.Core.Logic.{◌≢◌, ◌⊎◌, inl, inr, ⊎_elim, ◌↔◌}
use Prim.Native.Nat.{ℕ, zero, suc, ◌+◌, ◌*◌, ◌-◌, ◌^◌, ◌≤◌, ◌<◌}
use native.Mathlib.Omega.{arith}
use lib.Dec.{ltb, eqb}
use lib.ListN.{length, get_or, length-append}
use borrow.Author.Tests.{eqb-true, eqb-false, eq-eqb, ltb-true, ltb-false, lt-ltb}
use Rattle.laws.specs.Standing.{Stands}
use Rattle.laws.proofs.Tests.{by_cases, or_cases, or_false, lt_or_ge, not_equal}
use Rattle.laws.proofs.Standings.{stands_left, stands_right, stands_both, stands_at, stands_byte, byte_stands}
use Rattle.model.specs.Pages.{blanks, line_feed, number_column, first_line, blank_line, page_count, row_place, has_row, run}
use Rattle.theory.proofs.PageLaws.{column_length, count_is, getD_other, run_is}
use Rattle.text.specs.Reading.{Column}
use Rattle.text.proofs.Readings.{no_iff, one_column}
use Rattle.readpages.specs.Raw.{FirstsStand, RestBlank}

-- HOW MANY
pub fills_one : (n total : ℕ) → total ≡ 1 → n ≤ 59 * total → (◌≡◌ {A = Bool} true true) ↔ (page_count n ≡ total)
fills_one n total e h = (λ t. count_is n total (omega arith) h (inr e), λ t. refl)

last_filled : (n total : ℕ) → (total ≡ 1 → ⊥) → page_count n ≡ total → 59 * (total - 1) < n
unfolding page_count
last_filled n total ne e = ⊎_elim (λ l. l) (λ g. absurd (ne (omega (arith, e, g)))) (lt_or_ge (59 * (total - 1)) n)

pub fills_more : (n total : ℕ) → (total ≡ 1 → ⊥) → 1 ≤ total → n ≤ 59 * total → (ltb (59 * (total - 1)) n ≡ true) ↔ (page_count n ≡ total)
fills_more n total ne p h = (
  λ t. count_is n total p h (inl (ltb-true (59 * (total - 1)) n t)),
  λ e. lt-ltb (59 * (total - 1)) n (last_filled n total ne e),
)

pub row_within : (i total : ℕ) → i < 59 * total → row_place i + 81 ≤ 4860 * total
row_within i total h = omega arith

-- the first i rows have serials
pub record Counting (s : List ℕ) (i : ℕ) : Type 0 where
  pub each : (j : ℕ) → j < i → has_row s j ≡ true

pub count_none : (s : List ℕ) → Counting s 0
count_none s = record { each = λ j h. absurd (omega arith) }

pub count_more : {s : List ℕ} {i : ℕ} → Counting s i → row_place i + 9 < length s → get_or s (row_place i + 9) 0 ≢ 32 → Counting s (i + 1)
count_more {s} {i} w h e = record {
  each = λ j l. ⊎_elim
      (λ a. w.each j a)
      (λ b. let q : j ≡ i = omega arith in
      rw q (not_equal (get_or s (row_place i + 9) 32) 32 (λ f. e (getD_other s (row_place i + 9) 0 32 h ∙ f))))
      (lt_or_ge j i);
}

module _ {s : List ℕ} {i most : ℕ} (w : Counting s i) where
  pub count_stops : i < most → row_place i + 9 < length s → get_or s (row_place i + 9) 0 ≡ 32 → i ≡ run (has_row s) most
  count_stops l h e = sym (run_is (has_row s) most i (omega arith) w.each (λ q. rw (getD_other s (row_place i + 9) 32 0 h ∙ e) refl))

  pub count_ends : i ≤ most → most ≤ i → i ≡ run (has_row s) most
  count_ends l g = sym (run_is (has_row s) most i l w.each (λ q. absurd (omega arith)))

-- COLUMNS
pub column_found : {s : List ℕ} {at u p v : ℕ} → Column s at u p → v < 2 ^ 32 → (eqb u v ≡ true) ↔ Stands s at (number_column v)
column_found {s} {at} {u} {p} {v} c h = (
  λ e. let same = eqb-true u v e in rw (← same) c.stands,
  λ t. eq-eqb u v (one_column c (the_column t)),
)
  where
    the_column : Stands s at (number_column v) → Column s at v (at + 10)
    the_column t = record { small = h; stands = t; past_is = refl }

pub column_missing : {s : List ℕ} {at v : ℕ} → ((u p : ℕ) → Column s at u p → ⊥) → v < 2 ^ 32 → (◌≡◌ {A = Bool} false true) ↔ Stands s at (number_column v)
column_missing {s} {at} {v} none h = no_iff (λ t. none v (at + 10) (record { small = h; stands = t; past_is = refl }))

-- FIRST LINES
module _ {a b c : ℕ} (ha : a < 2 ^ 32) (hb : b < 2 ^ 32) (hc : c < 2 ^ 32) where
  abbrev x : List ℕ
  x = number_column a

  abbrev y : List ℕ
  y = number_column b

  abbrev z : List ℕ
  z = number_column c

  two : length (x ++ y) ≡ 20
  two = omega (arith, length-append x y, column_length a ha, column_length b hb)

  three : length (x ++ y ++ z) ≡ 30
  three = omega (arith, length-append (x ++ y) z, two, column_length c hc)

  four : length (x ++ y ++ z ++ blanks 50) ≡ 80
  four = omega (arith, length-append (x ++ y ++ z) (blanks 50), three)

  module _ {s : List ℕ} {at : ℕ} (t : Stands s at (first_line a b c)) where
    to_blanks : Stands s at (x ++ y ++ z ++ blanks 50)
    unfolding first_line
    to_blanks = stands_left (x ++ y ++ z ++ blanks 50) line_feed t

    to_columns : Stands s at (x ++ y ++ z)
    to_columns = stands_left (x ++ y ++ z) (blanks 50) to_blanks

    pub first_block : Stands s at (number_column a)
    first_block = stands_left x y (stands_left (x ++ y) z to_columns)

    pub first_page : Stands s (at + 10) (number_column b)
    first_page = stands_at (let e : at + length x ≡ at + 10 = omega (arith, column_length a ha) in e) (stands_right x y (stands_left (x ++ y) z to_columns))

    pub first_count : Stands s (at + 20) (number_column c)
    first_count = stands_at (let e : at + length (x ++ y) ≡ at + 20 = omega (arith, two) in e) (stands_right (x ++ y) z to_columns)

    pub first_blanks : Stands s (at + 30) (blanks 50)
    first_blanks = stands_at (let e : at + length (x ++ y ++ z) ≡ at + 30 = omega (arith, three) in e) (stands_right (x ++ y ++ z) (blanks 50) to_blanks)

    pub first_feed : get_or s (at + 80) 0 ≡ 10
    unfolding first_line
    first_feed = (byte_stands (stands_at (let e : at + length (x ++ y ++ z ++ blanks 50) ≡ at + 80 = omega (arith, four) in e) (stands_right (x ++ y ++ z ++ blanks 50) line_feed t))).1

  pub first_made : {s : List ℕ} {at : ℕ} → Stands s at (number_column a) → Stands s (at + 10) (number_column b) → Stands s (at + 20) (number_column c) → Stands s (at + 30) (blanks 50)
      → at + 80 < length s → (eqb (get_or s (at + 80) 0) 10 ≡ true) ↔ Stands s at (first_line a b c)
  unfolding first_line
  first_made {s} {at} p q r g h = (
    λ e. stands_both (x ++ y ++ z ++ blanks 50) line_feed
        (stands_both (x ++ y ++ z) (blanks 50)
        (stands_both (x ++ y) z
        (stands_both x y p (stands_at (let f : at + 10 ≡ at + length x = omega (arith, column_length a ha) in f) q))
        (stands_at (let f : at + 20 ≡ at + length (x ++ y) = omega (arith, two) in f) r))
        (stands_at (let f : at + 30 ≡ at + length (x ++ y ++ z) = omega (arith, three) in f) g))
        (stands_at (let f : at + 80 ≡ at + length (x ++ y ++ z ++ blanks 50) = omega (arith, four) in f) (stands_byte h (eqb-true (get_or s (at + 80) 0) 10 e))),
    λ t. eq-eqb (get_or s (at + 80) 0) 10 (first_feed t),
  )

-- each page's
pub record Firsts (s : List ℕ) (number total k : ℕ) : Type 0 where
  pub each : (j : ℕ) → j < k → Stands s (4860 * j) (first_line number (suc j) total)

pub firsts_none : (s : List ℕ) (number total : ℕ) → Firsts s number total 0
firsts_none s number total = record { each = λ j h. absurd (omega arith) }

module _ {s : List ℕ} {number total k : ℕ} (w : Firsts s number total k) where
  pub firsts_more : Stands s (4860 * k) (first_line number (suc k) total) → Firsts s number total (k + 1)
  firsts_more t = record { each = λ j h. ⊎_elim (λ a. w.each j a) (λ b. let q : j ≡ k = omega arith in rw q t) (lt_or_ge j k) }

  pub firsts_end : total ≤ k → (◌≡◌ {A = Bool} true true) ↔ FirstsStand s number total
  firsts_end h = (λ e j l. w.each j (omega arith), λ p. refl)

pub firsts_not : (s : List ℕ) (number total k : ℕ) → k < total → (Stands s (4860 * k) (first_line number (suc k) total) → ⊥) → (◌≡◌ {A = Bool} false true) ↔ FirstsStand s number total
firsts_not s number total k h none = no_iff (λ p. none (p k h))

-- LINES OF BLANKS
pub blank_not : {s : List ℕ} {at : ℕ} → (Stands s at (blanks 80) → ⊥) → (◌≡◌ {A = Bool} false true) ↔ Stands s at blank_line
unfolding blank_line
blank_not none = no_iff (λ t. none (stands_left (blanks 80) line_feed t))

pub blank_made : {s : List ℕ} {at : ℕ} → Stands s at (blanks 80) → at + 80 < length s → (eqb (get_or s (at + 80) 0) 10 ≡ true) ↔ Stands s at blank_line
unfolding blank_line
blank_made {s} {at} t h = (
  λ e. stands_both (blanks 80) line_feed t (stands_byte h (eqb-true (get_or s (at + 80) 0) 10 e)),
  λ w. eq-eqb (get_or s (at + 80) 0) 10 (byte_stands (stands_right (blanks 80) line_feed w)).1,
)

pub record Rest (s : List ℕ) (n i : ℕ) : Type 0 where
  pub each : (j : ℕ) → n ≤ j → j < i → Stands s (row_place j) blank_line

pub rest_none : (s : List ℕ) (n : ℕ) → Rest s n n
rest_none s n = record { each = λ j a b. absurd (omega arith) }

module _ {s : List ℕ} {n i : ℕ} (w : Rest s n i) where
  pub rest_more : Stands s (row_place i) blank_line → Rest s n (i + 1)
  rest_more t = record { each = λ j a b. ⊎_elim (λ l. w.each j a l) (λ g. let q : j ≡ i = omega arith in rw q t) (lt_or_ge j i) }

  pub rest_end : {most : ℕ} → most ≤ i → (◌≡◌ {A = Bool} true true) ↔ RestBlank s n most
  rest_end h = (λ e j a b. w.each j a (omega arith), λ p. refl)

pub rest_not : (s : List ℕ) (n most i : ℕ) → n ≤ i → i < most → (Stands s (row_place i) blank_line → ⊥) → (◌≡◌ {A = Bool} false true) ↔ RestBlank s n most
rest_not s n most i a b none = no_iff (λ p. none (p i a b))

-- BOUNDS of what was counted
run_most : (p : ℕ → Bool) (n : ℕ) → run p n ≤ n
run_most p zero = omega arith
run_most p (suc n) = by_cases (p 0) (λ e. rw e (omega (arith, run_most (λ i. p (suc i)) n))) (λ e. rw e (omega arith))

pub counted_most : (s : List ℕ) (total : ℕ) {n : ℕ} → n ≡ run (has_row s) (59 * total) → n ≤ 59 * total
counted_most s total e = omega (arith, e, run_most (has_row s) (59 * total))

pub counted_within : (s : List ℕ) (total : ℕ) {n : ℕ} → n ≡ run (has_row s) (59 * total) → 4860 * total ≤ length s → (i : ℕ) → i < n → row_place i + 81 ≤ length s
counted_within s total e h i l = omega (arith, row_within i total (omega (arith, counted_most s total e)))

-- no pages, or more than any block has
pub few_or_many : (total : ℕ) → (eqb total 0 || ltb 70 total) ≡ true → (total ≡ 0) ⊎ (70 < total)
few_or_many total e = ⊎_elim (λ z. inl (eqb-true total 0 z)) (λ g. inr (ltb-true 70 total g)) (or_cases (eqb total 0) (ltb 70 total) e)

pub right_many : (total : ℕ) → (eqb total 0 || ltb 70 total) ≡ false → (1 ≤ total) × (total ≤ 70)
right_many total e =
    let q = or_false (eqb total 0) (ltb 70 total) e in
    (⊎_elim (λ l. absurd (eqb-false total 0 q.0 (omega arith))) (λ g. g) (lt_or_ge total 1), ltb-false 70 total q.1)
