-- Floats that are whole numbers exactly: their product and quotient are one rounding of the exact ones; powers of ten. Assumes nothing.
use Rattle.std.proofs.Common.{◌≡◌, ℕ, zero, suc, ◌+◌, ◌*◌, ◌^◌, ◌<◌, ◌≤◌, Bool, true, false, cond, ltb, pos, sym, refl, ap, ◌∙◌, subst, lt_of_lt_of_le, lt_of_le_of_lt, zero-lt-suc, mul_assoc, mul_comm, mul-pos, pow-suc, mul-one, mul_left_comm, add-one, arith, lit<, pow_mono, pow-add, shl_lt, ne_eqb}
use native.Mathlib.Nat.{mul-mul-mul_comm, pow-le-pow_right, one-le-pow}
use lib.Ieee.{Float, nan, inf, fin, Format, binary64, prec, emax, low, up, down, unlike, odd, units, round, neg, mul, div, of_int}
use lib.Ieee.Fits.{round_is, up_pos, down_pos}
use lib.Ieee.Exact.{HasValue, round_exact}
use lib.Ieee.Scale.{round_same}
use lib.Ieee.Positive.{first_pos}
use lib.Ieee.Back.{round_whole}

-- THE SIGN of what is rounded
neg_odd : (d q k l : ℕ) → neg (odd d false q k l) ≡ odd d true q k l
unfolding neg odd
neg_odd d zero k l = refl
neg_odd d (suc q) k l = refl

neg_units : (f : Format) (q k : ℕ) → neg (units f false q k) ≡ units f true q k
unfolding units neg
neg_units f q k = go (ltb (q * 2 ^ k) (2 ^ (low f + suc (emax f))))
  where
    go : (b : Bool) → neg (cond b (odd (suc (prec f)) false q k (low f)) (inf false)) ≡ cond b (odd (suc (prec f)) true q k (low f)) (inf true)
    go true = neg_odd (suc (prec f)) q k (low f)
    go false = refl

neg_round : (f : Format) (a c : ℕ) → neg (round f false a c) ≡ round f true a c
neg_round f a c = ap neg (round_is f false a c) ∙ neg_units f _ _ ∙ sym (round_is f true a c)

pub signed_round : (f : Format) (minus : Bool) (a c : ℕ) → cond minus (neg (round f false a c)) (round f false a c) ≡ round f minus a c
signed_round f true a c = neg_round f a c
signed_round f false a c = refl

both_plus : (s t : Bool) → s ≡ false → t ≡ false → unlike s t ≡ false
both_plus s t p q = rw (p, q)

-- THE PRODUCT of whole numbers a and b
pub mul_whole : (f : Format) (x y : Float) (a b : ℕ) → HasValue x false a 1 → HasValue y false b 1 → mul f x y ≡ round f false (a * b) 1
unfolding mul
mul_whole f nan y a b h k = absurd h
mul_whole f (inf s) y a b h k = absurd h
mul_whole f (fin s m e) nan a b h k = absurd k
mul_whole f (fin s m e) (inf t) a b h k = absurd k
mul_whole f (fin s m e) (fin t n d) a b h k =
    ap (λ (z : Bool). round f z (m * up e * (n * up d)) (down e * down d)) (both_plus s t h.0 k.0)
    ∙ round_same f false (m * up e * (n * up d)) (down e * down d) (a * b) 1 (mul-pos (down_pos e) (down_pos d)) (zero-lt-suc 0)
    (mul-one (m * up e * (n * up d)) ∙ cross (m * up e) (n * up d) (down e) (down d) h.1 k.1)
  where
    cross : (x y p q : ℕ) → x * 1 ≡ a * p → y * 1 ≡ b * q → x * y ≡ a * b * (p * q)
    cross x y p q u v = ap (λ (z : ℕ). z * y) (sym (mul-one x) ∙ u) ∙ ap (λ (z : ℕ). a * p * z) (sym (mul-one y) ∙ v) ∙ mul-mul-mul_comm a p b q

-- THE QUOTIENT
pub div_whole : (f : Format) (x y : Float) (a b : ℕ) → 0 < b → HasValue x false a 1 → HasValue y false b 1 → div f x y ≡ round f false a b
unfolding div
div_whole f nan y a b B h k = absurd h
div_whole f (inf s) y a b B h k = absurd h
div_whole f (fin s m e) nan a b B h k = absurd k
div_whole f (fin s m e) (inf t) a b B h k = absurd k
div_whole f (fin s m e) (fin t n d) a b B h k =
    let N : 0 < n = first_pos n (up d) (first_pos (n * up d) 1 (subst (λ (z : ℕ). 0 < z) (sym k.1) (mul-pos B (down_pos d)))) in
    rw (ne_eqb n 0 (λ z. omega arith))
    (ap (λ (z : Bool). round f z (m * up e * down d) (n * up d * down e)) (both_plus s t h.0 k.0)
    ∙ round_same f false (m * up e * down d) (n * up d * down e) a b (mul-pos (mul-pos N (up_pos d)) (down_pos e)) B
    (cross (m * up e) (n * up d) (down e) (down d) h.1 k.1))
  where
    cross : (x y p q : ℕ) → x * 1 ≡ a * p → y * 1 ≡ b * q → x * q * b ≡ a * (y * p)
    cross x y p q u v =
        ap (λ (z : ℕ). z * q * b) (sym (mul-one x) ∙ u)
        ∙ regroup
        ∙ ap (λ (z : ℕ). a * (z * p)) (sym v ∙ mul-one y)
      where
        regroup : a * p * q * b ≡ a * (b * q * p)
        regroup = simp (mul_assoc, mul_comm, mul_left_comm)

-- POWERS OF TEN up to 10^22: 5^22 is below 2^53
ten_pow : (i : ℕ) → 10 ^ i ≡ 5 ^ i * 2 ^ i
ten_pow zero = refl
ten_pow (suc i) = rw (pow-suc 10 i, pow-suc 5 i, pow-suc 2 i) (ap (λ (z : ℕ). z * 10) (ten_pow i) ∙ mul-mul-mul_comm (5 ^ i) (2 ^ i) 5 2)

five_small : (i : ℕ) → i ≤ 22 → 5 ^ i < 2 ^ 53
five_small i h = lt_of_le_of_lt (pow-le-pow_right (zero-lt-suc 4) h) (lit< tt)

ten_exact : (i : ℕ) → i ≤ 22 → HasValue (round binary64 false (10 ^ i) 1) false (10 ^ i) 1
ten_exact i h =
    round_exact binary64 false (10 ^ i) 1 (5 ^ i) (i + low binary64) (zero-lt-suc 0) (five_small i h)
    (lt_of_lt_of_le (shl_lt 53 (i + low binary64) (five_small i h)) (pow_mono {j = low binary64 + suc (emax binary64)} (omega arith)))
    (ap (λ (z : ℕ). z * 2 ^ low binary64) (ten_pow i)
    ∙ mul_assoc (5 ^ i) (2 ^ i) (2 ^ low binary64)
    ∙ ap (λ (z : ℕ). 5 ^ i * z) (sym (pow-add 2 i (low binary64)))
    ∙ sym (mul-one (5 ^ i * 2 ^ (i + low binary64))))

-- ten times a power of ten is the next one, exactly
pub ten_more : (x y : Float) (i : ℕ) → i < 22 → HasValue x false (10 ^ i) 1 → HasValue y false 10 1 → HasValue (mul binary64 x y) false (10 ^ (i + 1)) 1
ten_more x y i h p q =
    let e : 10 ^ i * 10 ≡ 10 ^ (i + 1) = sym (pow-suc 10 i) ∙ ap (λ (k : ℕ). 10 ^ k) (sym (add-one i)) in
    subst (λ (z : Float). HasValue z false (10 ^ (i + 1)) 1) (sym (mul_whole binary64 x y (10 ^ i) 10 p q ∙ ap (λ (z : ℕ). round binary64 false z 1) e))
    (ten_exact (i + 1) (omega arith))

-- A WHOLE NUMBER below 10^15 is a float exactly
whole_exact : (m : ℕ) → m < 10 ^ 15 → HasValue (of_int binary64 (pos m)) false m 1
unfolding of_int
whole_exact m h = round_whole binary64 false m (omega arith)

-- ONE ROUNDING
pub times_once : (p : Float) (m k : ℕ) → m < 10 ^ 15 → HasValue p false (10 ^ k) 1 → mul binary64 (of_int binary64 (pos m)) p ≡ round binary64 false (m * 10 ^ k) 1
times_once p m k h q = mul_whole binary64 (of_int binary64 (pos m)) p m (10 ^ k) (whole_exact m h) q

pub over_once : (p : Float) (m k : ℕ) → m < 10 ^ 15 → HasValue p false (10 ^ k) 1 → div binary64 (of_int binary64 (pos m)) p ≡ round binary64 false m (10 ^ k)
over_once p m k h q = div_whole binary64 (of_int binary64 (pos m)) p m (10 ^ k) (one-le-pow k 10 (zero-lt-suc 9)) (whole_exact m h) q
