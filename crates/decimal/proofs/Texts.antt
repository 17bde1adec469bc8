-- Decimal texts read piece by piece; a number from 10^15 on counts as 10^15, and is refused all the same. Assumes nothing.
use Rattle.std.specs.Prelude.{None, Option, Some, MatchOption, IsSomeAnd}
use Rattle.std.specs.Option.{option_map}
use Rattle.std.proofs.Common.{◌≡◌, ℕ, ◌+◌, ◌-◌, ◌*◌, ◌^◌, ◌<◌, ◌≤◌, Bool, true, false, ◌||◌, eqb, List, [], ◌∷◌, length, get_or, take, drop, subst, sym, refl, ap, ◌∙◌, ⊎_elim, arith, le-ltb, lt-ltb, ne_eqb, le-leb}
use borrow.Author.Tests.{lt-leb}
use Rattle.laws.proofs.Tests.{by_cases, lt_or_ge}
use Rattle.laws.proofs.Lists.{drop_at_cons, drop_end, rest_whole}
use Rattle.model.specs.Text.{is_digit}
use Rattle.commands.specs.Words.{number_in, leading}
use Rattle.commands.proofs.Scans.{leading_on, leading_stop, leading_end, leading_start}
use Rattle.decimal.specs.declared.Digits.{Digits}
use Rattle.decimal.specs.declared.Power.{Power}
use Rattle.decimal.specs.declared.Power.TheVariants as power
use Rattle.decimal.specs.Decimal.{short_of, up_by, down_by, signed_of, exponent_of, number_at, capped, digits_of}

-- A CAPPED NUMBER
pub capped_small : (n : ℕ) → n < 10 ^ 15 → capped n ≡ n
unfolding capped
capped_small n h = rw (lt-ltb n (10 ^ 15) h)

pub capped_large : (n : ℕ) → 10 ^ 15 ≤ n → capped n ≡ 10 ^ 15
unfolding capped
capped_large n h = rw (le-ltb n (10 ^ 15) h)

pub capped_cases : (n : ℕ) {C : Type 0} → (n < 10 ^ 15 → capped n ≡ n → C) → (10 ^ 15 ≤ n → capped n ≡ 10 ^ 15 → C) → C
capped_cases n small large = ⊎_elim (λ h. small h (capped_small n h)) (λ h. large h (capped_large n h)) (lt_or_ge n (10 ^ 15))

pub capped_le : (n : ℕ) → capped n ≤ 10 ^ 15
capped_le n = capped_cases n (λ h e. omega arith) (λ h e. omega arith)

capped_fits : (n : ℕ) → n ≤ 10 ^ 15 → capped n ≡ n
capped_fits n h = capped_cases n (λ k e. e) (λ k e. omega arith)

capped_join : (n d : ℕ) → capped (10 * capped n + d) ≡ capped (10 * n + d)
capped_join n d = capped_cases n
    (λ h e. ap (λ (x : ℕ). capped (10 * x + d)) e)
    (λ h e. ap (λ (x : ℕ). capped (10 * x + d)) e ∙ capped_large (10 * 10 ^ 15 + d) (omega arith) ∙ sym (capped_large (10 * n + d) (omega arith)))

pub number_capped : (t : List ℕ) (n : ℕ) → capped (number_at (capped n) t) ≡ capped (number_at n t)
unfolding number_at
number_capped [] n = capped_fits (capped n) (capped_le n)
number_capped (b ∷ t) n = by_cases (is_digit b)
    (λ e. rw e (sym (number_capped t (10 * capped n + (b - 48))) ∙ ap (λ (x : ℕ). capped (number_at x t)) (capped_join n (b - 48)) ∙ number_capped t (10 * n + (b - 48))))
    (λ e. rw e (capped_fits (capped n) (capped_le n)))

-- DIGITS READ: those before i are, and gave v behind n
pub record Reading (n : ℕ) (t : List ℕ) (v i : ℕ) : Type 0 where
  pub v_le : v ≤ 10 ^ 15
  pub i_le : i ≤ length t
  pub value_is : capped (number_at v (drop i t)) ≡ capped (number_at n t)
  pub count_is : i + leading is_digit (drop i t) ≡ leading is_digit t

pub reading_start : (n : ℕ) (t : List ℕ) → n ≤ 10 ^ 15 → Reading n t n 0
reading_start n t h = record { v_le = h; i_le = omega arith; value_is = refl; count_is = leading_start is_digit t }

number_on : (t : List ℕ) (v i : ℕ) → i < length t → is_digit (get_or t i 0) ≡ true → number_at v (drop i t) ≡ number_at (10 * v + (get_or t i 0 - 48)) (drop (i + 1) t)
unfolding number_at
number_on t v i h d = rw (drop_at_cons t i h, d)

pub reading_on : {n v i w d : ℕ} {t : List ℕ} → Reading n t v i → i < length t → is_digit (get_or t i 0) ≡ true → d ≡ get_or t i 0 - 48 → w ≡ capped (10 * v + d) → Reading n t w (i + 1)
reading_on {n} {v} {i} {w} {d} {t} r h e f g = record {
  v_le = omega (arith, capped_le (10 * v + d));
  i_le = omega arith;
  value_is =
      ap (λ (x : ℕ). capped (number_at x (drop (i + 1) t))) (g ∙ ap (λ (x : ℕ). capped (10 * v + x)) f)
      ∙ number_capped (drop (i + 1) t) (10 * v + (get_or t i 0 - 48))
      ∙ ap capped (sym (number_on t v i h e))
      ∙ r.value_is;
  count_is = sym (leading_on is_digit t i h e) ∙ r.count_is;
}

stopped : {n v i : ℕ} {t : List ℕ} → Reading n t v i → number_at v (drop i t) ≡ v → i + leading is_digit (drop i t) ≡ i → ◌≡◌ {A = Digits} (record { value = v; count = i }) (digits_of n t)
unfolding digits_of
stopped {n} {v} {i} {t} r e f =
    let value = sym (capped_fits v r.v_le) ∙ ap capped (sym e) ∙ r.value_is in
    let count = sym f ∙ r.count_is in
    λ k. record { value = value k; count = count k }

pub reading_stop : {n v i : ℕ} {t : List ℕ} → Reading n t v i → i < length t → is_digit (get_or t i 0) ≡ false → ◌≡◌ {A = Digits} (record { value = v; count = i }) (digits_of n t)
unfolding number_at
reading_stop {n} {v} {i} {t} r h e = stopped r (rw (drop_at_cons t i h, e)) (leading_stop is_digit t i h e)

pub reading_end : {n v i : ℕ} {t : List ℕ} → Reading n t v i → i ≡ length t → ◌≡◌ {A = Digits} (record { value = v; count = length t }) (digits_of n t)
unfolding number_at
reading_end {n} {v} {i} {t} r h =
    subst (λ (k : ℕ). ◌≡◌ {A = Digits} (record { value = v; count = k }) (digits_of n t)) h
    (stopped r (rw (drop_end t i (omega arith))) (leading_end is_digit t i (omega arith)))

leading_within : (p : ℕ → Bool) (t : List ℕ) → leading p t ≤ length t
unfolding leading
leading_within p [] = omega arith
leading_within p (b ∷ t) = by_cases (p b) (λ e. rw e (omega (arith, leading_within p t))) (λ e. rw e (omega arith))

pub digits_within : (n : ℕ) (t : List ℕ) {d : Digits} → d ≡ digits_of n t → d.count ≤ length t
unfolding digits_of
digits_within n t {d} e = omega (arith, ap (λ (x : Digits). x.count) e, leading_within is_digit t)

pub digits_capped : (n : ℕ) (t : List ℕ) {d : Digits} → d ≡ digits_of n t → d.value ≤ 10 ^ 15
unfolding digits_of
digits_capped n t {d} e = omega (arith, ap (λ (x : Digits). x.value) e, capped_le (number_at n t))

-- THE EXPONENT
-- what `map` gives, as its contract says it
pub mapped : (f : ℕ → Power) (o : Option ℕ) (r : Option Power) → MatchOption o (r ≡ None) (λ x. IsSomeAnd r (λ y. y ≡ f x)) → r ≡ option_map f o
mapped f (Some x) (Some y) h = ap Some h
mapped f (Some x) None h = absurd h
mapped f None r h = h

pub short_long : (t : List ℕ) → 2 < length t → None ≡ short_of t
unfolding short_of
short_long t h = rw (lt-leb (length t) 2 h)

pub short_some : (t : List ℕ) {r : Option ℕ} → length t ≤ 2 → r ≡ number_in t → r ≡ short_of t
unfolding short_of
short_some t h e = rw (le-leb (length t) 2 h) e

pub signed_none : (t : List ℕ) → length t ≡ 0 → None ≡ signed_of t
unfolding signed_of
signed_none [] h = refl
signed_none (b ∷ t) h = absurd (omega (arith, h))

pub signed_minus : (t : List ℕ) {p : Option Power} → 0 < length t → get_or t 0 0 ≡ 45 → p ≡ down_by (short_of (take (length t - 1) (drop 1 t))) → p ≡ signed_of t
unfolding signed_of
signed_minus [] h e f = absurd (omega arith)
signed_minus (b ∷ t) h e f = rw (e, ← rest_whole (b ∷ t) 1) f

pub signed_plus : (t : List ℕ) {p : Option Power} → 0 < length t → get_or t 0 0 ≡ 43 → p ≡ up_by (short_of (take (length t - 1) (drop 1 t))) → p ≡ signed_of t
unfolding signed_of
signed_plus [] h e f = absurd (omega arith)
signed_plus (b ∷ t) h e f = rw (e, ← rest_whole (b ∷ t) 1) f

pub signed_bare : (t : List ℕ) {p : Option Power} → 0 < length t → (get_or t 0 0 ≡ 45 → ⊥) → (get_or t 0 0 ≡ 43 → ⊥) → p ≡ up_by (short_of t) → p ≡ signed_of t
unfolding signed_of
signed_bare [] h m l f = absurd (omega arith)
signed_bare (b ∷ t) h m l f = rw (ne_eqb b 45 m, ne_eqb b 43 l) f

pub exponent_none : (t : List ℕ) → length t ≡ 0 → Some (power.Up 0) ≡ exponent_of t
unfolding exponent_of
exponent_none [] h = refl
exponent_none (b ∷ t) h = absurd (omega (arith, h))

pub exponent_some : (t : List ℕ) {p : Option Power} → 0 < length t → (eqb (get_or t 0 0) 101 || eqb (get_or t 0 0) 69) ≡ true → p ≡ signed_of (take (length t - 1) (drop 1 t)) → p ≡ exponent_of t
unfolding exponent_of
exponent_some [] h e f = absurd (omega arith)
exponent_some (b ∷ t) h e f = rw (e, ← rest_whole (b ∷ t) 1) f

pub exponent_wrong : (t : List ℕ) → 0 < length t → (eqb (get_or t 0 0) 101 || eqb (get_or t 0 0) 69) ≡ false → None ≡ exponent_of t
unfolding exponent_of
exponent_wrong [] h e = absurd (omega arith)
exponent_wrong (b ∷ t) h e = rw e refl
