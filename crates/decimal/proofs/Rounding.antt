-- What `round` gives is the nearest float: no finite float of the format is nearer to the exact fraction. Assumes nothing.
-- In units of the format's smallest value the fraction is n / c, and the result is a multiple of 2^k units, the closest one. A float that is
-- no multiple of 2^k units lies below 2^(prec - 1 + k) units, which is such a multiple and no further from n / c.
use Rattle.std.specs.Prelude.{None, Some}
use Rattle.std.proofs.Common.{◌≡◌, ℕ, zero, suc, ◌+◌, ◌-◌, ◌*◌, ◌/◌, ◌%◌, ◌^◌, ◌<◌, ◌≤◌, Bool, true, false, cond, not, ◌&&◌, T, eqb, ltb, leb, ◌⊎◌, ℤ, pos, negsuc, sym, refl, ap, ◌∙◌, subst, inl, inr, ⊎_elim, le_trans, le_of_eq, lt_of_lt_of_le, lt_of_le_of_lt, le_of_lt, mul-le-mul_right, mod-lt, zero-lt-suc, mul_assoc, suc-mul, mul_comm, div-lt_iff_lt-mul, add-mul, mul-le-mul_left, mul-lt-mul_of_pos_right, mul-pos, one-mul, div-add-mod', le-div_iff_mul-le, zero-mul, mul-one, mul_right_comm, not-le_of_lt, le_of_mul-le-mul_right, arith, lit≤, eqb→eq, ltb→lt, leb→le, pow_pos, pow_mono, pow-add, shl_lt, ltb-true, leb-true}
use mathlib.Core.Bool.{beq}
use Prim.Native.Nat.{compare, Ordering}
use native.Mathlib.Nat.{mul-sub}
use native.Mathlib.Nat.{div-div-eq-div-mul, pow-le-pow_right, one-le-pow}
use lib.Dec.{is_le, compare_is_eq, nleb→lt}
use lib.Pow.{pow-lt}
use lib.Ieee.{Float, nan, inf, fin, Format, binary32, binary64, prec, emax, low, up, down, size, nearest, round, fits}
use lib.Ieee.Digits.{size-le, size_reaches}
use lib.Ieee.Fits.{round_is, nearest-le, kept-lt, and_l, and_r, two, two-le_pos}
use lib.Ieee.Exact.{HasValue, units_val}
use lib.Ieee.Nearest.{closest}
use lib.Ieee.Order.{drop, kept}
use Rattle.laws.proofs.Tests.{by_cases, lt_or_ge, and_left, and_right}
use Rattle.decimal.specs.Decimal.{nearest_to}
use Rattle.decimal.specs.Nearest.{distance, gap, Nearest}

-- THE CLOSEST MULTIPLE of u to n, which is w * u + r
below_part : (z w u r n : ℕ) → n ≡ w * u + r → z ≤ w → r ≤ distance (z * u) n
below_part z w u r n e h = let l : z * u ≤ w * u = mul-le-mul_right u h in omega arith

above_part : (z w u r n : ℕ) → n ≡ w * u + r → r < u → w < z → u - r ≤ distance (z * u) n
above_part z w u r n e k h =
    let l : suc w * u ≤ z * u = mul-le-mul_right u h in
    let s : suc w * u ≡ w * u + u = suc-mul w u in
    omega arith

-- the multiple below where the rest is at most a half, the one above where it is at least a half
near : (q w u r n : ℕ) → n ≡ w * u + r → r < u → ((q ≡ w) × (r * 2 ≤ u)) ⊎ ((q ≡ suc w) × (u ≤ r * 2)) → (z : ℕ) → distance (q * u) n ≤ distance (z * u) n
near q w u r n e k (inl (p, h)) z =
    let here : distance (q * u) n ≡ r = rw p (omega arith) in
    ⊎_elim (λ l. omega (arith, above_part z w u r n e k l)) (λ l. omega (arith, below_part z w u r n e l)) (lt_or_ge w z)
near q w u r n e k (inr (p, h)) z =
    let s : suc w * u ≡ w * u + u = suc-mul w u in
    let here : distance (q * u) n ≡ u - r = rw p (omega arith) in
    ⊎_elim (λ l. omega (arith, above_part z w u r n e k l)) (λ l. omega (arith, below_part z w u r n e l)) (lt_or_ge w z)

-- which of the two `nearest` takes
taken : (w r u : ℕ) (o : Ordering) → (T (is_le o) → r * 2 ≤ u) → (T (not (is_le o)) → u < r * 2) → (T (compare_is_eq o) → r * 2 ≡ u)
    → ((nearest w o ≡ w) × (r * 2 ≤ u)) ⊎ ((nearest w o ≡ suc w) × (u ≤ r * 2))
taken w r u Ordering.lt le gt eq = inl (refl, le tt)
taken w r u Ordering.gt le gt eq = let h = gt tt in inr (refl, omega arith)
taken w r u Ordering.eq le gt eq =
    let h = eq tt in
    ⊎_elim (λ l. inl (omega arith, omega arith)) (λ l. inr (omega arith, omega arith)) (lt_or_ge (w % 2) 1)

closest_nearest : (n u z : ℕ) → 0 < u → distance (closest n u * u) n ≤ distance (z * u) n
closest_nearest n u z U =
    near (closest n u) (n / u) u (n % u) n (sym (div-add-mod' n u)) (mod-lt n U)
    (taken (n / u) (n % u) u (compare (n % u * 2) u) (leb→le (n % u * 2) u) (nleb→lt (n % u * 2) u) (eqb→eq (n % u * 2) u)) z

-- AMONG THE FLOATS, in units of the format's smallest value: r * 2^j units with r of at most p digits
module _ (p n c : ℕ) (P : 0 < p) (C : 0 < c) where
  abbrev k : ℕ
  k = drop p n c

  abbrev here : ℕ
  here = kept p n c * 2 ^ k

  -- a multiple of 2^k units
  to_multiple : (z : ℕ) → distance (here * c) n ≤ distance (z * 2 ^ k * c) n
  to_multiple z =
      let e : (y : ℕ) → y * (c * 2 ^ k) ≡ y * 2 ^ k * c = λ y. ap (λ (x : ℕ). y * x) (mul_comm c (2 ^ k)) ∙ sym (mul_assoc y (2 ^ k) c) in
      subst (λ (x : ℕ). distance x n ≤ distance (z * 2 ^ k * c) n) (e (kept p n c))
      (subst (λ (x : ℕ). distance (kept p n c * (c * 2 ^ k)) n ≤ distance x n) (e z) (closest_nearest n (c * 2 ^ k) z (mul-pos C (pow_pos k))))

  -- below 2^(p - 1 + k) units where digits are dropped
  lower : (y : ℕ) → 0 < k → y ≤ 2 ^ (p - 1) * 2 ^ k → distance (here * c) n ≤ distance (y * c) n
  lower y K h =
      let reach : 2 ^ (p - 1) * 2 ^ k ≤ n / c = le_trans (le_of_eq (sym (pow-add 2 (p - 1) k))) (size_reaches (n / c) (p - 1 + k) (omega arith)) in
      let in-n : 2 ^ (p - 1) * 2 ^ k * c ≤ n = (le-div_iff_mul-le C).0 reach in
      let y-c : y * c ≤ 2 ^ (p - 1) * 2 ^ k * c = mul-le-mul_right c h in
      omega (arith, to_multiple (2 ^ (p - 1)))

  pub no_nearer : (r j : ℕ) → r < 2 ^ p → distance (here * c) n ≤ distance (r * 2 ^ j * c) n
  no_nearer r j h = ⊎_elim small large (lt_or_ge j k)
    where
      small : j < k → distance (here * c) n ≤ distance (r * 2 ^ j * c) n
      small l = lower (r * 2 ^ j) (omega arith)
          (le_trans (le_of_lt (shl_lt p j h)) (le_trans (pow_mono {j = p - 1 + k} (omega arith)) (le_of_eq (pow-add 2 (p - 1) k))))

      large : k ≤ j → distance (here * c) n ≤ distance (r * 2 ^ j * c) n
      large l =
          let e : 2 ^ (j - k) * 2 ^ k ≡ 2 ^ j = sym (pow-add 2 (j - k) k) ∙ ap (λ (x : ℕ). 2 ^ x) (omega arith) in
          subst (λ (x : ℕ). distance (here * c) n ≤ distance (x * c) n) (mul_assoc r (2 ^ (j - k)) (2 ^ k) ∙ ap (λ (x : ℕ). r * x) e) (to_multiple (r * 2 ^ (j - k)))

-- A FLOAT of the format in units: m * 2^j of them, with m of at most prec digits
in_units : (f : Format) (u : Bool) (m : ℕ) (e : ℤ) → T (fits f (fin u m e)) → (j : ℕ) × (m < 2 ^ prec f) × (m * up e * 2 ^ low f ≡ m * 2 ^ j * down e)
unfolding fits
in_units f u zero e t = (0, pow_pos (prec f), ap (λ (x : ℕ). x * 2 ^ low f) (zero-mul (up e)) ∙ zero-mul (2 ^ low f) ∙ sym (ap (λ (x : ℕ). x * down e) (zero-mul (2 ^ 0)) ∙ zero-mul (down e)))
in_units f u (suc m) e t =
    let first = and_l (eqb (suc m % 2) 1 && ltb (suc m) (2 ^ prec f) && leb (down e) (2 ^ low f)) (ltb (suc m * up e) (2 ^ suc (emax f) * down e)) t in
    let odd-small = and_l (eqb (suc m % 2) 1 && ltb (suc m) (2 ^ prec f)) (leb (down e) (2 ^ low f)) first in
    let small = ltb→lt (suc m) (2 ^ prec f) (and_r (eqb (suc m % 2) 1) (ltb (suc m) (2 ^ prec f)) odd-small) in
    let fine = leb→le (down e) (2 ^ low f) (and_r (eqb (suc m % 2) 1 && ltb (suc m) (2 ^ prec f)) (leb (down e) (2 ^ low f)) first) in
    let s = scale e fine in
    (s.0, small, mul_assoc (suc m) (up e) (2 ^ low f) ∙ ap (λ (x : ℕ). suc m * x) s.1 ∙ sym (mul_assoc (suc m) (2 ^ s.0) (down e)))
  where
    scale : (e : ℤ) → down e ≤ 2 ^ low f → (j : ℕ) × (up e * 2 ^ low f ≡ 2 ^ j * down e)
    scale (pos k) h = (k + low f, sym (pow-add 2 k (low f)) ∙ sym (mul-one (2 ^ (k + low f))))
    scale (negsuc k) h =
        let l : suc k ≤ low f = ⊎_elim (λ x. absurd (not-le_of_lt (pow-lt x) h)) (λ x. x) (lt_or_ge (low f) (suc k)) in
        (low f - suc k, one-mul (2 ^ low f) ∙ ap (λ (x : ℕ). 2 ^ x) (omega arith) ∙ pow-add 2 (low f - suc k) (suc k))

-- DISTANCES in units
distance_mul : (x y t : ℕ) → distance x y * t ≡ distance (x * t) (y * t)
distance_mul x y t =
    let part : (a b : ℕ) → (a - b) * t ≡ a * t - b * t = λ a b. mul_comm (a - b) t ∙ mul-sub t a b ∙ two_sides (mul_comm t a) (mul_comm t b) in
    add-mul (x - y) (y - x) t ∙ two_sums (part x y) (part y x)
  where
    two_sides : {a b c d : ℕ} → a ≡ b → c ≡ d → a - c ≡ b - d
    two_sides p q = rw (p, q)

    two_sums : {a b c d : ℕ} → a ≡ b → c ≡ d → a + c ≡ b + d
    two_sums p q = rw (p, q)

-- a value v / d that is x / l
module _ (v d x l a c : ℕ) (e : v * l ≡ x * d) where
  left : v * c * l ≡ x * c * d
  left = mul_right_comm v c l ∙ ap (λ (y : ℕ). y * c) e ∙ mul_right_comm x d c

  right : a * d * l ≡ a * l * d
  right = mul_right_comm a d l

  gap_units : distance (v * c) (a * d) * l ≡ distance (x * c) (a * l) * d
  gap_units = distance_mul (v * c) (a * d) l ∙ rw (left, right) (sym (distance_mul (x * c) (a * l) d))

  sum_units : (v * c + a * d) * l ≡ (x * c + a * l) * d
  sum_units = add-mul (v * c) (a * d) l ∙ rw (left, right) (sym (add-mul (x * c) (a * l) d))

-- THE NEAREST FLOAT
same_sign : (t s : Bool) → t ≡ s → beq t s ≡ true
same_sign t true e = rw e refl
same_sign t false e = rw e refl

-- whichever the sign
either : (b : Bool) (g x y d : ℕ) → g ≤ x * d → g ≤ y * d → g ≤ cond b x y * d
either true g x y d p q = p
either false g x y d p q = q

-- g / (d * ..) at most h / (d' * ..), by their values in units
by_units : (g h d d' x y l : ℕ) → 0 < l → g * l ≡ x * d → h * l ≡ y * d' → x ≤ y → g * d' ≤ h * d
by_units g h d d' x y l L p q le =
    le_of_mul-le-mul_right
    (le_trans (le_of_eq (mul_right_comm g d' l ∙ ap (λ (z : ℕ). z * d') p ∙ mul_assoc x d d'))
    (le_trans (mul-le-mul_right (d * d') le)
    (le_of_eq (ap (λ (z : ℕ). y * z) (mul_comm d d') ∙ sym (mul_assoc y d' d) ∙ ap (λ (z : ℕ). z * d) (sym q) ∙ mul_right_comm h l d))))
    L

value_nearest : (f : Format) (s : Bool) (a c x : ℕ) (r : Float) → HasValue r s x (2 ^ low f)
    → ((m j : ℕ) → m < 2 ^ prec f → distance (x * c) (a * 2 ^ low f) ≤ distance (m * 2 ^ j * c) (a * 2 ^ low f)) → Nearest f s a c r
value_nearest f s a c x nan v h = absurd v
value_nearest f s a c x (inf t) v h = absurd v
value_nearest f s a c x (fin t m e) v h = (v.0, far)
  where
    far : (u : Bool) (n : ℕ) (d : ℤ) → T (fits f (fin u n d)) → gap s a c t m e * down d ≤ gap s a c u n d * down e
    far u n d w =
        let l = 2 ^ low f in
        let i = in_units f u n d w in
        let y = n * 2 ^ i.0 in
        let less : distance (x * c) (a * l) ≤ distance (y * c) (a * l) = h n i.0 i.1 in
        let own = gap_units (m * up e) (down e) x l a c v.1 in
        rw (same_sign t s v.0)
        (either (beq u s) (distance (m * up e * c) (a * down e) * down d) (distance (n * up d * c) (a * down d)) (n * up d * c + a * down d) (down e)
        (by_units (distance (m * up e * c) (a * down e)) (distance (n * up d * c) (a * down d)) (down e) (down d) _ _ l (pow_pos (low f)) own (gap_units (n * up d) (down d) y l a c i.2) less)
        (by_units (distance (m * up e * c) (a * down e)) (n * up d * c + a * down d) (down e) (down d) _ _ l (pow_pos (low f)) own (sum_units (n * up d) (down d) y l a c i.2) (omega arith)))

-- below 2^emax nothing overflows
digits_fit : (f : Format) → prec f ≤ emax f + low f
digits_fit binary32 = lit≤ tt
digits_fit binary64 = lit≤ tt

module _ (f : Format) (a c : ℕ) (C : 0 < c) (small : a < 2 ^ emax f * c) where
  abbrev n : ℕ
  n = a * 2 ^ low f

  abbrev dropped : ℕ
  dropped = drop (prec f) n c

  under : kept (prec f) n c * 2 ^ dropped < 2 ^ (low f + suc (emax f))
  under =
      let fine : n / c < 2 ^ (emax f + low f) = (div-lt_iff_lt-mul C).1 (lt_of_lt_of_le (mul-lt-mul_of_pos_right small (pow_pos (low f)))
      (le_of_eq (mul_right_comm (2 ^ emax f) c (2 ^ low f) ∙ ap (λ (x : ℕ). x * c) (sym (pow-add 2 (emax f) (low f)))))) in
      let whole : n / (c * 2 ^ dropped) < 2 ^ prec f = subst (λ (x : ℕ). x < 2 ^ prec f) (div-div-eq-div-mul n c (2 ^ dropped)) (kept-lt (prec f) (n / c)) in
      let most : kept (prec f) n c ≤ 2 ^ prec f = le_trans (nearest-le (n / (c * 2 ^ dropped)) (compare (n % (c * 2 ^ dropped) * 2) (c * 2 ^ dropped))) whole in
      lt_of_le_of_lt (le_trans (mul-le-mul_right (2 ^ dropped) most) (le_of_eq (sym (pow-add 2 (prec f) dropped))))
      (lt_of_le_of_lt (pow_mono (room (size (n / c)) (prec f) (emax f + low f) (size-le (n / c) (emax f + low f) fine) (digits_fit f))) (pow-lt (after (emax f) (low f))))
    where
      room : (z p m : ℕ) → z ≤ m → p ≤ m → p + (z - p) ≤ m
      room z p m h k = omega arith

      after : (e l : ℕ) → e + l < l + suc e
      after e l = omega arith

  pub round_nearest : (s : Bool) → Nearest f s a c (round f s a c)
  round_nearest s = value_nearest f s a c (kept (prec f) n c * 2 ^ dropped) (round f s a c)
      (subst (λ (z : Float). HasValue z s (kept (prec f) n c * 2 ^ dropped) (2 ^ low f)) (sym (round_is f s a c)) (units_val f s (kept (prec f) n c) dropped under))
      (no_nearer (prec f) n c (two-le_pos (prec f) (two f)) C)

-- A DECIMAL: what `nearest_to` gives is the nearest of all floats to ±m × 10^up / 10^down
decimal_small : (m up down : ℕ) → m < 10 ^ 15 → up - down ≤ 22 → m * 10 ^ up < 2 ^ 1023 * 10 ^ down
decimal_small m up down h k =
    let ten : (i : ℕ) → 0 < 10 ^ i = λ i. one-le-pow i 10 (zero-lt-suc 9) in
    let shift : m * 10 ^ up ≤ m * 10 ^ 22 * 10 ^ down =
    le_trans (mul-le-mul_left m (pow-le-pow_right (zero-lt-suc 9) {j = 22 + down} (omega arith)))
    (le_of_eq (ap (λ (x : ℕ). m * x) (pow-add 10 22 down) ∙ sym (mul_assoc m (10 ^ 22) (10 ^ down)))) in
    let few : m * 10 ^ 22 < 2 ^ 1023 = lt_of_lt_of_le (mul-lt-mul_of_pos_right h (ten 22)) (lit≤ tt) in
    lt_of_le_of_lt shift (mul-lt-mul_of_pos_right few (ten down))

pub decimal_nearest : (minus : Bool) (m up down : ℕ) (x : Float) → nearest_to minus m up down ≡ Some x → Nearest binary64 minus (m * 10 ^ up) (10 ^ down) x
unfolding nearest_to
decimal_nearest minus m up down x e = by_cases (ltb m (10 ^ 15) && (leb (up - down) 22 && leb (down - up) 22)) is not_is
  where
    is : (ltb m (10 ^ 15) && (leb (up - down) 22 && leb (down - up) 22)) ≡ true → Nearest binary64 minus (m * 10 ^ up) (10 ^ down) x
    is t =
        let powers = and_right (ltb m (10 ^ 15)) (leb (up - down) 22 && leb (down - up) 22) t in
        let same : round binary64 minus (m * 10 ^ up) (10 ^ down) ≡ x = inside (rw t at e) in
        subst (Nearest binary64 minus (m * 10 ^ up) (10 ^ down)) same
        (round_nearest binary64 (m * 10 ^ up) (10 ^ down) (one-le-pow down 10 (zero-lt-suc 9))
        (decimal_small m up down (ltb-true m (10 ^ 15) (and_left (ltb m (10 ^ 15)) (leb (up - down) 22 && leb (down - up) 22) t))
        (leb-true (up - down) 22 (and_left (leb (up - down) 22) (leb (down - up) 22) powers)))
        minus)
      where
        inside : {y : Float} → Some y ≡ Some x → y ≡ x
        inside q = cc

    not_is : (ltb m (10 ^ 15) && (leb (up - down) 22 && leb (down - up) 22)) ≡ false → Nearest binary64 minus (m * 10 ^ up) (10 ^ down) x
    not_is t = absurd (apart (rw t at e))
      where
        apart : None ≡ Some x → ⊥
        apart q = let z : ◌≡◌ {A = ℕ} 0 1 = cc in omega arith
