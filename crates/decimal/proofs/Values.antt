-- The value of digits and a power of ten; texts put together from their pieces. Assumes nothing.
use Rattle.std.specs.Prelude.{None, Option, Some}
use Rattle.std.proofs.Common.{◌≡◌, ℕ, ◌+◌, ◌-◌, ◌*◌, ◌^◌, ◌<◌, ◌≤◌, Bool, true, false, cond, ◌||◌, eqb, ltb, leb, List, [], ◌∷◌, length, get_or, take, drop, sym, refl, ap, ◌∙◌, ⊎_elim, zero-lt-suc, mul_assoc, mul_comm, mul-one, arith, pow-add, ltb-false, ltb-true, le-ltb, lt-ltb, ne_eqb, le-leb}
use native.Mathlib.Nat.{one-le-pow}
use lib.Ieee.{Float, binary64, round, neg}
use lib.Ieee.Scale.{round_same}
use borrow.Author.Tests.{lt-leb}
use Rattle.laws.proofs.Tests.{or_cases, and_false, or_false}
use Rattle.laws.proofs.Lists.{rest_whole}
use Rattle.model.specs.Text.{is_digit}
use Rattle.commands.specs.Words.{leading}
use Rattle.decimal.specs.declared.Digits.{Digits}
use Rattle.decimal.specs.declared.Power.{Power}
use Rattle.decimal.specs.declared.Power.TheVariants as power
use Rattle.decimal.specs.Decimal.{nearest_to, scaled_by, exponent_of, number_at, fraction_of, behind_of, unsigned_of, decimal_of, capped, digits_of}
use Rattle.decimal.proofs.Texts.{capped_cases, number_capped}
use Rattle.decimal.proofs.Floats.{signed_round}

-- THE POWER OF TEN, up less down
ten_pos : (k : ℕ) → 0 < 10 ^ k
ten_pos k = one-le-pow k 10 (zero-lt-suc 9)

back_up : (k down up : ℕ) → k + down ≡ up → 10 ^ k * 10 ^ down ≡ 10 ^ up
back_up k down up e = sym (pow-add 10 k down) ∙ ap (λ (x : ℕ). 10 ^ x) e

round_up : (minus : Bool) (m up down k : ℕ) → k + down ≡ up → round binary64 minus (m * 10 ^ k) 1 ≡ round binary64 minus (m * 10 ^ up) (10 ^ down)
round_up minus m up down k e = round_same binary64 minus (m * 10 ^ k) 1 (m * 10 ^ up) (10 ^ down) (zero-lt-suc 0) (ten_pos down)
    (mul_assoc m (10 ^ k) (10 ^ down) ∙ ap (λ (x : ℕ). m * x) (back_up k down up e) ∙ sym (mul-one (m * 10 ^ up)))

round_down : (minus : Bool) (m up down k : ℕ) → k + up ≡ down → round binary64 minus m (10 ^ k) ≡ round binary64 minus (m * 10 ^ up) (10 ^ down)
round_down minus m up down k e = round_same binary64 minus m (10 ^ k) (m * 10 ^ up) (10 ^ down) (ten_pos k) (ten_pos down)
    (ap (λ (x : ℕ). m * x) (sym (back_up k up down e) ∙ mul_comm (10 ^ k) (10 ^ up)) ∙ sym (mul_assoc m (10 ^ up) (10 ^ k)))

-- THE NEAREST FLOAT, by cases
pub nearest_large : (minus : Bool) (m up down : ℕ) → 10 ^ 15 ≤ m → None ≡ nearest_to minus m up down
unfolding nearest_to
nearest_large minus m up down h = rw (le-ltb m (10 ^ 15) h)

pub nearest_far_up : (minus : Bool) (m up down : ℕ) → 22 < up - down → None ≡ nearest_to minus m up down
unfolding nearest_to
nearest_far_up minus m up down h = rw (lt-leb (up - down) 22 h, and_false (ltb m (10 ^ 15)))

pub nearest_far_down : (minus : Bool) (m up down : ℕ) → 22 < down - up → None ≡ nearest_to minus m up down
unfolding nearest_to
nearest_far_down minus m up down h = rw (lt-leb (down - up) 22 h, and_false (leb (up - down) 22), and_false (ltb m (10 ^ 15)))

nearest_is : (minus : Bool) (m up down : ℕ) → m < 10 ^ 15 → up - down ≤ 22 → down - up ≤ 22 → Some (round binary64 minus (m * 10 ^ up) (10 ^ down)) ≡ nearest_to minus m up down
unfolding nearest_to
nearest_is minus m up down h k l = rw (lt-ltb m (10 ^ 15) h, le-leb (up - down) 22 k, le-leb (down - up) 22 l)

pub nearest_up : (minus : Bool) (m up down : ℕ) {x y : Float} → m < 10 ^ 15 → down ≤ up → up - down ≤ 22 → x ≡ round binary64 false (m * 10 ^ (up - down)) 1 → y ≡ cond minus (neg x) x
    → Some y ≡ nearest_to minus m up down
nearest_up minus m up down {x} {y} h k l e f =
    ap Some (f ∙ ap (λ (z : Float). cond minus (neg z) z) e ∙ signed_round binary64 minus (m * 10 ^ (up - down)) 1 ∙ round_up minus m up down (up - down) (omega arith))
    ∙ nearest_is minus m up down h l (omega arith)

pub nearest_down : (minus : Bool) (m up down : ℕ) {x y : Float} → m < 10 ^ 15 → up ≤ down → down - up ≤ 22 → x ≡ round binary64 false m (10 ^ (down - up)) → y ≡ cond minus (neg x) x
    → Some y ≡ nearest_to minus m up down
nearest_down minus m up down {x} {y} h k l e f =
    ap Some (f ∙ ap (λ (z : Float). cond minus (neg z) z) e ∙ signed_round binary64 minus m (10 ^ (down - up)) ∙ round_down minus m up down (down - up) (omega arith))
    ∙ nearest_is minus m up down h (omega arith) l

-- PLACES AND A POWER
pub scaled_up : (minus : Bool) (m places k : ℕ) {p : Power} {r : Option Float} → p ≡ power.Up k → r ≡ nearest_to minus m k places → r ≡ scaled_by minus m places (Some p)
unfolding scaled_by
scaled_up minus m places k e f = rw e f

pub scaled_down : (minus : Bool) (m places k : ℕ) {p : Power} {r : Option Float} → p ≡ power.Down k → r ≡ nearest_to minus m 0 (places + k) → r ≡ scaled_by minus m places (Some p)
unfolding scaled_by
scaled_down minus m places k e f = rw e f

pub scaled_none : (minus : Bool) (m places : ℕ) → None ≡ scaled_by minus m places None
unfolding scaled_by
scaled_none minus m places = refl

-- more than 22 places, or a power further down than 22
pub scaled_far : (minus : Bool) (m places k : ℕ) {p : Power} → p ≡ power.Down k → (ltb 22 places || ltb 22 k) ≡ true → None ≡ scaled_by minus m places (Some p)
scaled_far minus m places k e h = scaled_down minus m places k e (nearest_far_down minus m 0 (places + k)
    (⊎_elim (λ x. omega (arith, ltb-true 22 places x)) (λ x. omega (arith, ltb-true 22 k x)) (or_cases (ltb 22 places) (ltb 22 k) h)))

pub near_sum : (places k : ℕ) → (ltb 22 places || ltb 22 k) ≡ false → places + k ≤ 44
near_sum places k h = let w = or_false (ltb 22 places) (ltb 22 k) h in omega (arith, ltb-false 22 places w.0, ltb-false 22 k w.1)

-- A CAPPED NUMBER has the same value
nearest_capped : (minus : Bool) (m up down : ℕ) → nearest_to minus (capped m) up down ≡ nearest_to minus m up down
nearest_capped minus m up down = capped_cases m
    (λ h e. ap (λ (x : ℕ). nearest_to minus x up down) e)
    (λ h e. sym (nearest_large minus (capped m) up down (omega arith)) ∙ nearest_large minus m up down h)

scaled_capped : (minus : Bool) (m places : ℕ) (p : Option Power) → scaled_by minus (capped m) places p ≡ scaled_by minus m places p
unfolding scaled_by
scaled_capped minus m places (Some (power.Up k)) = nearest_capped minus m k places
scaled_capped minus m places (Some (power.Down k)) = nearest_capped minus m 0 (places + k)
scaled_capped minus m places None = refl

scaled_same : (minus : Bool) (m n places : ℕ) (p : Option Power) → capped m ≡ capped n → scaled_by minus m places p ≡ scaled_by minus n places p
scaled_same minus m n places p e = sym (scaled_capped minus m places p) ∙ ap (λ (x : ℕ). scaled_by minus x places p) e ∙ scaled_capped minus n places p

fraction_capped : (minus : Bool) (n : ℕ) (t : List ℕ) → fraction_of minus (capped n) t ≡ fraction_of minus n t
unfolding fraction_of
fraction_capped minus n t =
    ap (cond (eqb (leading is_digit t) 0) None)
    (scaled_same minus (number_at (capped n) t) (number_at n t) (leading is_digit t) (exponent_of (drop (leading is_digit t) t)) (number_capped t n))

behind_capped : (minus : Bool) (n : ℕ) (t : List ℕ) → behind_of minus (capped n) t ≡ behind_of minus n t
unfolding behind_of
behind_capped minus n [] = nearest_capped minus n 0 0
behind_capped minus n (b ∷ t) = rw (fraction_capped minus n t, scaled_capped minus n 0 (exponent_of (b ∷ t)))

-- TEXTS
pub fraction_none : (minus : Bool) (n : ℕ) (t : List ℕ) {d : Digits} → d ≡ digits_of n t → d.count ≡ 0 → None ≡ fraction_of minus n t
unfolding fraction_of digits_of
fraction_none minus n t e h = rw (sym (ap (λ (x : Digits). x.count) e) ∙ h)

pub fraction_some : (minus : Bool) (n : ℕ) (t : List ℕ) {d : Digits} {p : Option Power} {r : Option Float} → d ≡ digits_of n t → (d.count ≡ 0 → ⊥)
    → p ≡ exponent_of (take (length t - d.count) (drop d.count t))
    → r ≡ scaled_by minus d.value d.count p → r ≡ fraction_of minus n t
unfolding fraction_of digits_of
fraction_some minus n t {d} {p} {r} e h g f =
    let value : d.value ≡ capped (number_at n t) = ap (λ (x : Digits). x.value) e in
    let count : d.count ≡ leading is_digit t = ap (λ (x : Digits). x.count) e in
    f
    ∙ ap (λ (x : ℕ). scaled_by minus x d.count p) value
    ∙ scaled_capped minus (number_at n t) d.count p
    ∙ ap (scaled_by minus (number_at n t) d.count) (g ∙ ap exponent_of (rest_whole t d.count))
    ∙ at d.count (leading is_digit t) count (λ z. h (count ∙ z))
  where
    at : (a b : ℕ) → a ≡ b → (b ≡ 0 → ⊥) → scaled_by minus (number_at n t) a (exponent_of (drop a t)) ≡ cond (eqb b 0) None (scaled_by minus (number_at n t) b (exponent_of (drop b t)))
    at a b e z = rw (e, ne_eqb b 0 z)

pub behind_none : (minus : Bool) (n : ℕ) (t : List ℕ) {r : Option Float} → length t ≡ 0 → r ≡ nearest_to minus n 0 0 → r ≡ behind_of minus n t
unfolding behind_of
behind_none minus n [] h e = e
behind_none minus n (b ∷ t) h e = absurd (omega (arith, h))

pub behind_point : (minus : Bool) (n : ℕ) (t : List ℕ) {r : Option Float} → 0 < length t → get_or t 0 0 ≡ 46 → r ≡ fraction_of minus n (take (length t - 1) (drop 1 t)) → r ≡ behind_of minus n t
unfolding behind_of
behind_point minus n [] h e f = absurd (omega arith)
behind_point minus n (b ∷ t) h e f = f ∙ ap (fraction_of minus n) (rest_whole (b ∷ t) 1) ∙ rw e refl

pub behind_exponent : (minus : Bool) (n : ℕ) (t : List ℕ) {p : Option Power} {r : Option Float} → 0 < length t → (get_or t 0 0 ≡ 46 → ⊥) → p ≡ exponent_of t → r ≡ scaled_by minus n 0 p → r ≡ behind_of minus n t
unfolding behind_of
behind_exponent minus n [] h e g f = absurd (omega arith)
behind_exponent minus n (b ∷ t) h e g f = rw (ne_eqb b 46 e) (f ∙ ap (scaled_by minus n 0) g)

pub unsigned_none : (minus : Bool) (t : List ℕ) {d : Digits} → d ≡ digits_of 0 t → d.count ≡ 0 → None ≡ unsigned_of minus t
unfolding unsigned_of digits_of
unsigned_none minus t e h = rw (sym (ap (λ (x : Digits). x.count) e) ∙ h)

pub unsigned_some : (minus : Bool) (t : List ℕ) {d : Digits} {r : Option Float} → d ≡ digits_of 0 t → (d.count ≡ 0 → ⊥)
    → r ≡ behind_of minus d.value (take (length t - d.count) (drop d.count t)) → r ≡ unsigned_of minus t
unfolding unsigned_of digits_of
unsigned_some minus t {d} {r} e h f =
    let value : d.value ≡ capped (number_at 0 t) = ap (λ (x : Digits). x.value) e in
    let count : d.count ≡ leading is_digit t = ap (λ (x : Digits). x.count) e in
    f
    ∙ ap (λ (x : ℕ). behind_of minus x (take (length t - d.count) (drop d.count t))) value
    ∙ behind_capped minus (number_at 0 t) (take (length t - d.count) (drop d.count t))
    ∙ ap (behind_of minus (number_at 0 t)) (rest_whole t d.count)
    ∙ at d.count (leading is_digit t) count (λ z. h (count ∙ z))
  where
    at : (a b : ℕ) → a ≡ b → (b ≡ 0 → ⊥) → behind_of minus (number_at 0 t) (drop a t) ≡ cond (eqb b 0) None (behind_of minus (number_at 0 t) (drop b t))
    at a b e z = rw (e, ne_eqb b 0 z)

pub decimal_none : (t : List ℕ) → length t ≡ 0 → None ≡ decimal_of t
unfolding decimal_of
decimal_none [] h = refl
decimal_none (b ∷ t) h = absurd (omega (arith, h))

pub decimal_minus : (t : List ℕ) {r : Option Float} → 0 < length t → get_or t 0 0 ≡ 45 → r ≡ unsigned_of true (take (length t - 1) (drop 1 t)) → r ≡ decimal_of t
unfolding decimal_of
decimal_minus [] h e f = absurd (omega arith)
decimal_minus (b ∷ t) h e f = f ∙ ap (unsigned_of true) (rest_whole (b ∷ t) 1) ∙ rw e refl

pub decimal_plus : (t : List ℕ) {r : Option Float} → 0 < length t → (get_or t 0 0 ≡ 45 → ⊥) → r ≡ unsigned_of false t → r ≡ decimal_of t
unfolding decimal_of
decimal_plus [] h e f = absurd (omega arith)
decimal_plus (b ∷ t) h e f = rw (ne_eqb b 45 e) f
