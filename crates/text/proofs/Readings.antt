-- Reading blanks, texts, digits and numbers at a place: what each loop has read, and that there is one number or none. Assumes nothing.
use mathlib.Core.Path.{◌≡◌, refl, sym, ◌∙◌, ap}
use mathlib.Core.Bool.{Bool, true, false, true≢false, ◌&&◌}
use mathlib.Core.List.{List, [], ◌∷◌, ◌++◌}
use mathlib.Core.Logic.{◌≢◌, ⊎_elim, ◌↔◌}
use Prim.Native.Nat.{ℕ, suc, ◌+◌, ◌*◌, ◌-◌, ◌^◌, ◌≤◌, ◌<◌}
use native.Mathlib.Numerals.{add-one}
use native.Mathlib.Omega.{arith}
use lib.Dec.{leb, eqb}
use lib.ListN.{length, get_or, take, drop, length-replicate, length-drop}
use lib.Seq.{get_or-take, get_or-drop, length-take-le, take-suc, take-add}
use borrow.Author.Tests.{eqb-true, eqb-false, eq-eqb, leb-true, ltb-true, lt-ltb}
use Rattle.laws.specs.Standing.{Stands}
use Rattle.laws.proofs.Tests.{by_cases, and_left, and_right, and_intro, all_at, lt_or_ge}
use Rattle.laws.proofs.Standings.{stands_left, stands_right, stands_both, stands_at, stands_take, stands_one, stands_byte, byte_stands, stands_many, many_stand}
use Rattle.model.specs.Lists.{all}
use Rattle.model.specs.Text.{is_digit, decimal}
use Rattle.model.specs.Pages.{blanks, number_from, number_column}
use Rattle.theory.proofs.TextLaws.{decimal_ten, decimal_digits, decimal_back, decimal_some, decimal_first, last_digit, number_append, number_grows, shortest}
use Rattle.theory.proofs.PageLaws.{column_length, column_back}
use Rattle.text.specs.Reading.{PastBlanks, Digits, Run, Number, Ended, Column, zero_first}

pub no_iff : {P : Type 0} → (P → ⊥) → (◌≡◌ {A = Bool} false true) ↔ P
no_iff h = (λ e. absurd (true≢false (sym e)), λ p. absurd (h p))

-- what a test told
pub told_no : {P : Type 0} {r : Bool} → (r ≡ true) ↔ P → r ≡ false → P → ⊥
told_no w e p = true≢false (sym (w.1 p) ∙ e)

pub told_yes : {P : Type 0} {r : Bool} → (r ≡ true) ↔ P → r ≡ true → P
told_yes w e = w.0 e

-- BLANKS
pub record Blanking (s : List ℕ) (at : ℕ) (yes : Bool) (i : ℕ) : Type 0 where
  pub so_far : (yes ≡ true) ↔ ((j : ℕ) → j < i → get_or s (at + j) 0 ≡ 32)

pub blank_none : (s : List ℕ) (at : ℕ) → Blanking s at true 0
blank_none s at = record { so_far = (λ e j h. absurd (omega arith), λ p. refl) }

pub blank_more : (s : List ℕ) (at : ℕ) {yes : Bool} {i : ℕ} → Blanking s at yes i → Blanking s at (yes && eqb (get_or s (at + i) 0) 32) (i + 1)
blank_more s at {yes} {i} w = record {
  so_far = (
    λ e j h. ⊎_elim
        (λ l. w.so_far.0 (and_left yes _ e) j l)
        (λ g. let same : j ≡ i = omega arith in rw same (eqb-true (get_or s (at + i) 0) 32 (and_right yes _ e)))
        (lt_or_ge j i),
    λ p. and_intro (w.so_far.1 (λ j h. p j (omega arith))) (eq-eqb (get_or s (at + i) 0) 32 (p i (omega arith))),
  );
}

pub blank_all : (s : List ℕ) (at n : ℕ) {yes : Bool} {i : ℕ} → Blanking s at yes i → i ≡ n → at + n ≤ length s → (yes ≡ true) ↔ Stands s at (blanks n)
blank_all s at n w e h = (
  λ y. stands_many h (λ j l. w.so_far.0 y j (omega arith)),
  λ t. w.so_far.1 (λ j l. many_stand n t j (omega arith)),
)

-- A TEXT: its first i bytes stand there
pub record Matching (s : List ℕ) (at : ℕ) (text : List ℕ) (i : ℕ) : Type 0 where
  pub i_le : i ≤ length text
  pub same : (j : ℕ) → j < i → get_or s (at + j) 0 ≡ get_or text j 0

pub match_none : (s : List ℕ) (at : ℕ) (text : List ℕ) → Matching s at text 0
match_none s at text = record { i_le = omega arith; same = λ j h. absurd (omega arith) }

module _ {s text : List ℕ} {at i : ℕ} (w : Matching s at text i) where
  pub match_more : i < length text → get_or s (at + i) 0 ≡ get_or text i 0 → Matching s at text (i + 1)
  match_more h e = record {
    i_le = omega arith;
    same = λ j l. ⊎_elim (λ a. w.same j a) (λ b. let q : j ≡ i = omega arith in rw q e) (lt_or_ge j i);
  }

  pub match_not : i < length text → get_or s (at + i) 0 ≢ get_or text i 0 → (◌≡◌ {A = Bool} false true) ↔ Stands s at text
  match_not h e = no_iff (λ t. e (t.same i h))

  pub match_all : length text ≤ i → at + length text ≤ length s → (◌≡◌ {A = Bool} true true) ↔ Stands s at text
  match_all h f = (λ e. record { within = f; same = λ j l. w.same j (omega (arith, w.i_le)) }, λ t. refl)

-- BLANKS COUNTED: the first i bytes
pub record Blanked (s : List ℕ) (from i : ℕ) : Type 0 where
  pub before : (j : ℕ) → j < i → get_or s (from + j) 0 ≡ 32

pub past_none : (s : List ℕ) (from : ℕ) → Blanked s from 0
past_none s from = record { before = λ j h. absurd (omega arith) }

pub past_more : {s : List ℕ} {from i : ℕ} → Blanked s from i → get_or s (from + i) 0 ≡ 32 → Blanked s from (i + 1)
past_more {s} {from} {i} w e = record { before = λ j h. ⊎_elim (λ a. w.before j a) (λ b. let q : j ≡ i = omega arith in rw q e) (lt_or_ge j i) }

-- DIGITS
pub digit_low : (c : ℕ) → is_digit c ≡ true → 48 ≤ c
unfolding is_digit
digit_low c d = leb-true 48 c (and_left (leb 48 c) _ d)

pub digit_high : (c : ℕ) → is_digit c ≡ true → c ≤ 57
unfolding is_digit
digit_high c d = leb-true c 57 (and_right (leb 48 c) _ d)

pub digits_none : (s : List ℕ) (from : ℕ) → Digits s from 0 0
digits_none s from = record { small = omega arith; each = λ j h. absurd (omega arith); value = refl }

module _ {s : List ℕ} {from i v : ℕ} (w : Digits s from i v) where
  -- one byte more
  pub value_more : from + i < length s → number_from 0 (take (i + 1) (drop from s)) ≡ 10 * v + (get_or s (from + i) 0 - 48)
  value_more h =
      ap (λ (k : ℕ). number_from 0 (take k (drop from s))) (add-one i) ∙ ap (number_from 0) (take-suc (drop from s) i 0 (omega (arith, length-drop from s)))
      ∙ number_append 0 (take i (drop from s)) (get_or (drop from s) i 0 ∷ [])
      ∙ ap (λ (c : ℕ). 10 * number_from 0 (take i (drop from s)) + (c - 48)) (get_or-drop from s i 0)
      ∙ ap (λ (x : ℕ). 10 * x + (get_or s (from + i) 0 - 48)) (sym w.value)

  pub each_more : is_digit (get_or s (from + i) 0) ≡ true → (j : ℕ) → j < i + 1 → is_digit (get_or s (from + j) 0) ≡ true
  each_more d j h = ⊎_elim (λ a. w.each j a) (λ b. let q : j ≡ i = omega arith in rw q d) (lt_or_ge j i)

  pub digits_more : from + i < length s → is_digit (get_or s (from + i) 0) ≡ true → {x : ℕ} → x ≡ 10 * v + (get_or s (from + i) 0 - 48) → x < 2 ^ 32 → Digits s from (i + 1) x
  digits_more h d e l = record { small = l; each = each_more d; value = e ∙ sym (value_more h) }

  -- a number begins with all of them
  pub number_longer : {n u past : ℕ} → i ≤ n → Number s from n u past → i ≤ length (decimal u)
  number_longer {n} {u} l k = ⊎_elim
      (λ a. absurd (true≢false (sym (w.each (length (decimal u)) a) ∙ k.ended (omega arith))))
      (λ b. b)
      (lt_or_ge (length (decimal u)) i)

-- the value of its first i bytes is no greater
prefix_value : (s : List ℕ) (from n u past i : ℕ) → Number s from n u past → i ≤ length (decimal u) → number_from 0 (take i (drop from s)) ≤ u
prefix_value s from n u past i k l =
    let d = drop from s in
    let whole : take (length (decimal u)) d ≡ decimal u = stands_take k.stands in
    let split : take i d ++ take (length (decimal u) - i) (drop i d) ≡ decimal u = sym (take-add i (length (decimal u) - i) d) ∙ ap (λ (m : ℕ). take m d) (let e : i + (length (decimal u) - i) ≡ length (decimal u) = omega arith in e) ∙ whole in
    let value : number_from (number_from 0 (take i d)) (take (length (decimal u) - i) (drop i d)) ≡ u =
    sym (number_append 0 (take i d) (take (length (decimal u) - i) (drop i d))) ∙ ap (number_from 0) split ∙ decimal_back u k.small in
    omega (arith, value, number_grows (number_from 0 (take i d)) (take (length (decimal u) - i) (drop i d)))

-- digits whose value reaches 2^32 begin no number
pub too_large : {s : List ℕ} {from i v : ℕ} → Digits s from i v → {n : ℕ} → i < n → from + n ≤ length s → is_digit (get_or s (from + i) 0) ≡ true
    → 2 ^ 32 ≤ 10 * v + (get_or s (from + i) 0 - 48) → (u past : ℕ) → Number s from n u past → ⊥
too_large {s} {from} {i} {v} w {n} l h d big u past k =
    let longer : i + 1 ≤ length (decimal u) = ⊎_elim
    (λ a. let q : length (decimal u) ≡ i = omega (arith, number_longer w (omega arith) k) in
    absurd (true≢false (sym d ∙ ap (λ (m : ℕ). is_digit (get_or s (from + m) 0)) (sym q) ∙ k.ended (omega arith))))
    (λ b. b)
    (lt_or_ge (length (decimal u)) (i + 1)) in
    omega (arith, prefix_value s from n u past (i + 1) k longer, value_more w (omega arith), k.small)

-- ONE NUMBER OR NONE
module _ {s : List ℕ} {from n v past : ℕ} (r : Run s from n v past) where
  -- a number there has all the digits, and no others
  run_length : {u p : ℕ} → Number s from n u p → length (decimal u) ≡ r.count
  run_length {u} k =
      let least = number_longer r.digits r.within k in
      let first = k.stands.same in
      ⊎_elim
      (λ a. let d : is_digit (get_or s (from + r.count) 0) ≡ true =
      ap is_digit (first r.count a) ∙ all_at is_digit 0 (decimal u) r.count (decimal_digits u) a in
      absurd (true≢false (sym d ∙ r.ended (omega (arith, k.within)))))
      (λ b. omega arith)
      (lt_or_ge r.count (length (decimal u)))

  pub run_empty : past ≡ from → (u p : ℕ) → Number s from n u p → ⊥
  run_empty e u p k = omega (arith, run_length k, r.past_is, decimal_some u)

  pub run_some : (past ≡ from → ⊥) → from + n ≤ length s → (from + 1 ≤ past) × (past ≤ length s)
  run_some ne h = (⊎_elim (λ a. absurd (ne (omega (arith, r.past_is)))) (λ b. omega (arith, r.past_is)) (lt_or_ge r.count 1), omega (arith, r.past_is, r.within))

  pub run_zero : zero_first s from past ≡ true → (u p : ℕ) → Number s from n u p → ⊥
  run_zero e u p k =
      let z = eqb-true (get_or s from 0) 48 (and_left (eqb (get_or s from 0) 48) _ e) in
      let more = ltb-true (from + 1) past (and_right (eqb (get_or s from 0) 48) _ e) in
      let o : from + 0 ≡ from = omega arith in
      let first : get_or s from 0 ≡ get_or (decimal u) 0 0 = ap (λ (m : ℕ). get_or s m 0) (sym o) ∙ k.stands.same 0 (omega (arith, decimal_some u)) in
      ⊎_elim
      (λ a. omega (arith, run_length k, r.past_is, ap length (last_digit u a)))
      (λ b. omega (arith, first, z, decimal_first u k.small (omega arith)))
      (lt_or_ge u 10)

  -- the digits in their shortest form
  abbrev own_digits : List ℕ
  own_digits = take r.count (drop from s)

  pub run_number : from + n ≤ length s → (past ≡ from → ⊥) → zero_first s from past ≡ false → Number s from n v past
  run_number h some no_zero = record {
    small = r.digits.small;
    stands = record { within = omega (arith, long, r.within); same = λ i l. sym (get_or-take r.count (drop from s) i 0 (omega (arith, long)) ∙ get_or-drop from s i 0) ∙ ap (λ (t : List ℕ). get_or t i 0) (sym is_decimal) };
    within = omega (arith, long, r.within);
    past_is = r.past_is ∙ ap (λ (m : ℕ). from + m) (sym long);
    ended = λ l. ap (λ (m : ℕ). is_digit (get_or s (from + m) 0)) long ∙ r.ended (omega (arith, long));
  }
    where
      cut_length : length own_digits ≡ r.count
      cut_length = (length-take-le r.count (drop from s) (omega (arith, length-drop from s, r.within)))

      each : (t : List ℕ) (m : ℕ) → length t ≡ m → ((i : ℕ) → i < m → is_digit (get_or t i 0) ≡ true) → all is_digit t ≡ true
      each [] m e p = refl
      each (c ∷ t) m e p = and_intro (p 0 (omega (arith, e))) (each t (length t) refl (λ i l. p (suc i) (omega (arith, e))))

      all_digits : all is_digit own_digits ≡ true
      all_digits = (each (take r.count (drop from s)) r.count cut_length
          (λ i l. ap is_digit (get_or-take r.count (drop from s) i 0 l ∙ get_or-drop from s i 0) ∙ r.digits.each i l))

      first_byte : get_or own_digits 0 0 ≡ get_or s from 0
      first_byte =
          let o : from + 0 ≡ from = omega arith in
          (get_or-take r.count (drop from s) 0 0 (positive) ∙ get_or-drop from s 0 0 ∙ ap (λ (m : ℕ). get_or s m 0) o)
        where
          positive : 0 < r.count
          positive = ⊎_elim (λ a. a) (λ b. absurd (some (omega (arith, r.past_is)))) (lt_or_ge 0 r.count)

      by_first : (t : List ℕ) → length t ≡ r.count → all is_digit t ≡ true → get_or t 0 0 ≡ get_or s from 0 → number_from 0 t ≡ v → decimal v ≡ t
      by_first [] e a f g = absurd (some (omega (arith, e, r.past_is)))
      by_first (c ∷ t) e a f g = by_cases (eqb (get_or s from 0) 48)
          (λ z. let one : r.count ≡ 1 = ⊎_elim
          (λ q. absurd (true≢false (sym (and_intro z (lt-ltb (from + 1) past (omega (arith, r.past_is)))) ∙ no_zero)))
          (λ q. omega (arith, e))
          (lt_or_ge 1 r.count) in
          lone c t (eqb-true (get_or s from 0) 48 z) f (omega (arith, e, one)) g)
          (λ z. let big : 49 ≤ c = omega (arith, f, eqb-false (get_or s from 0) 48 z, digit_low c (and_left (is_digit c) _ a)) in
          ap decimal (sym g) ∙ shortest c t big a (rw g r.digits.small))
        where
          lone : (c : ℕ) (t : List ℕ) → get_or s from 0 ≡ 48 → c ≡ get_or s from 0 → length t ≡ 0 → number_from 0 (c ∷ t) ≡ v → decimal v ≡ c ∷ t
          lone c [] z f e g =
              let zero_is : v ≡ 0 = omega (arith, g, z, f) in
              let c-is : 48 ≡ c = omega (arith, z, f) in
              ap decimal zero_is ∙ last_digit 0 (omega arith) ∙ ap (λ (x : ℕ). x ∷ []) c-is
          lone c (y ∷ t) z f e g = absurd (omega (arith, e))

      is_decimal : decimal v ≡ own_digits
      is_decimal = by_first own_digits cut_length all_digits first_byte ((sym r.digits.value))

      long : length (decimal v) ≡ r.count
      long = ap length is_decimal ∙ cut_length

-- two numbers at one place are one
pub one_number : {s : List ℕ} {from n v p u q : ℕ} → Number s from n v p → Number s from n u q → v ≡ u
one_number {s} {from} {n} {v} {p} {u} {q} a b =
    sym (decimal_back v a.small) ∙ ap (number_from 0) (stands_one a.stands b.stands same_length) ∙ decimal_back u b.small
  where
    shorter : {v p u q : ℕ} → Number s from n v p → Number s from n u q → length (decimal u) ≤ length (decimal v)
    shorter {v} {p} {u} {q} a b = ⊎_elim
        (λ l. let d : is_digit (get_or s (from + length (decimal v)) 0) ≡ true =
        ap is_digit (b.stands.same (length (decimal v)) l) ∙ all_at is_digit 0 (decimal u) (length (decimal v)) (decimal_digits u) l in
        absurd (true≢false (sym d ∙ a.ended (omega (arith, b.within)))))
        (λ g. g)
        (lt_or_ge (length (decimal v)) (length (decimal u)))

    same_length : length (decimal v) ≡ length (decimal u)
    same_length = omega (arith, shorter a b, shorter b a)

pub number_past : {s : List ℕ} {from n v p : ℕ} → Number s from n v p → p ≤ from + n
number_past k = omega (arith, k.past_is, k.within)

-- A NUMBER AND THE BYTE THAT ENDS IT
pub ended_number : {s : List ℕ} {from end u p : ℕ} → is_digit end ≡ false → Ended s from end u p → Number s from 10 u (from + length (decimal u))
ended_number {s} {from} {end} {u} d k = record {
  small = k.small;
  stands = stands_left (decimal u) (end ∷ []) k.stands;
  within = decimal_ten u k.small;
  past_is = refl;
  ended = λ l. ap is_digit (byte_stands (stands_right (decimal u) (end ∷ []) k.stands)).1 ∙ d;
}

pub no_ended : {s : List ℕ} {from end : ℕ} → is_digit end ≡ false → ((u p : ℕ) → Number s from 10 u p → ⊥) → (u p : ℕ) → Ended s from end u p → ⊥
no_ended d none u p k = none u _ (ended_number d k)

module _ {s : List ℕ} {from end v past : ℕ} (k : Number s from 10 v past) where
  pub other_end : is_digit end ≡ false → get_or s past 0 ≢ end → (u p : ℕ) → Ended s from end u p → ⊥
  other_end d ne u p e =
      let same : v ≡ u = one_number k (ended_number d e) in
      ne (ap (λ (m : ℕ). get_or s m 0) (k.past_is ∙ ap (λ (x : ℕ). from + length (decimal x)) same) ∙ (byte_stands (stands_right (decimal u) (end ∷ []) e.stands)).1)

  pub right_end : past < length s → get_or s past 0 ≡ end → Ended s from end v (past + 1)
  right_end h e = record {
    small = k.small;
    stands = stands_both (decimal v) (end ∷ []) k.stands (stands_at k.past_is (stands_byte h e));
    past_is = omega (arith, k.past_is);
  }

pub one_ended : {s : List ℕ} {from end v p u q : ℕ} → is_digit end ≡ false → Ended s from end v p → Ended s from end u q → v ≡ u
one_ended d a b = one_number (ended_number d a) (ended_number d b)

-- COLUMNS
module _ {s : List ℕ} {at k : ℕ} (b : PastBlanks s at 9 k) where
  -- a number in the columns begins behind these blanks
  column_starts : {u p : ℕ} → Column s at u p → 10 - length (decimal u) ≡ k
  unfolding number_column
  column_starts {u} c =
      let j = 10 - length (decimal u) in
      let j-length : length (blanks j) ≡ j = length-replicate {A = ℕ} j 32 in
      let front = stands_left (blanks j) (decimal u) c.stands in
      let number = stands_at (let e : at + length (blanks j) ≡ at + j = omega (arith, j-length) in e) (stands_right (blanks j) (decimal u) c.stands) in
      let z : at + j + 0 ≡ at + j = omega arith in
      let first : get_or s (at + j) 0 ≡ get_or (decimal u) 0 0 = ap (λ (m : ℕ). get_or s m 0) (sym z) ∙ number.same 0 (omega (arith, decimal_some u)) in
      let digit : 48 ≤ get_or (decimal u) 0 0 = digit_low (get_or (decimal u) 0 0) (all_at is_digit 0 (decimal u) 0 (decimal_digits u) (omega (arith, decimal_some u))) in
      ⊎_elim
      (λ l. absurd (omega (arith, first, digit, b.before j l)))
      (λ g. ⊎_elim
      (λ l. absurd (b.here (omega (arith, decimal_some u)) (many_stand j front k l)))
      (λ e. omega arith)
      (lt_or_ge k j))
      (lt_or_ge j k)

  pub column_number : {u p : ℕ} → Column s at u p → Number s (at + k) (10 - k) u (at + k + length (decimal u))
  unfolding number_column
  column_number {u} c =
      let j = 10 - length (decimal u) in
      let e = column_starts c in
      let j-length : length (blanks j) ≡ j = length-replicate {A = ℕ} j 32 in
      let ten = decimal_ten u c.small in
      record {
        small = c.small;
        stands = stands_at (let f : at + length (blanks j) ≡ at + k = omega (arith, j-length, e) in f) (stands_right (blanks j) (decimal u) c.stands);
        within = omega (arith, e, ten);
        past_is = refl;
        ended = λ l. absurd (omega (arith, e, ten, l));
      }

  pub no_column : ((u p : ℕ) → Number s (at + k) (10 - k) u p → ⊥) → (u p : ℕ) → Column s at u p → ⊥
  no_column none u p c = none u _ (column_number c)

  module _ {v past : ℕ} (n : Number s (at + k) (10 - k) v past) where
    pub column_short : (past ≡ at + 10 → ⊥) → (u p : ℕ) → Column s at u p → ⊥
    column_short ne u p c =
        let same : v ≡ u = one_number n (column_number c) in
        let long = ap (λ (x : ℕ). length (decimal x)) same in
        ne (omega (arith, n.past_is, long, column_starts c, decimal_ten u c.small))

    pub column_right : at + 10 ≤ length s → past ≡ at + 10 → Column s at v past
    column_right h e = record {
      small = n.small;
      stands = unfold number_column in (stands_both (blanks j) (decimal v) (stands_at refl (stands_many {n = j} (omega (arith, k_is)) (λ i l. b.before i (omega (arith, k_is)))))
          (stands_at (let f : at + k ≡ at + length (blanks j) = omega (arith, length-replicate {A = ℕ} j 32, k_is) in f) n.stands));
      past_is = e;
    }
      where
        j : ℕ
        j = 10 - length (decimal v)

        k_is : j ≡ k
        k_is = omega (arith, n.past_is, e, n.within, b.within)

-- two numbers in one column are one
pub one_column : {s : List ℕ} {at v p u q : ℕ} → Column s at v p → Column s at u q → v ≡ u
one_column {s} {at} {v} {p} {u} {q} a b =
    let same = stands_one a.stands b.stands (column_length v a.small ∙ sym (column_length u b.small)) in
    sym (column_back v a.small) ∙ ap (number_from 0) same ∙ column_back u b.small
