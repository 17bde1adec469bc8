-- Floats and their patterns: a pattern is finite where the float lies between the infinities, and patterns compare as the floats do.
-- Assumes nothing.
use mathlib.Core.Path.{◌≡◌, refl, sym, ◌∙◌, ap}
use mathlib.Core.Bool.{Bool, true, false, cond, ◌&&◌}
use Prim.Native.Nat.{ℕ, zero, suc, ◌%◌, ◌/◌, ◌<◌, ◌^◌}
use native.Mathlib.Omega.{arith}
use lib.Dec.{T, leb, eqb}
use lib.IntN.{ℤ}
use lib.Ieee.{Float, nan, inf, fin, binary64, lt, le, neg, fits, to_bits, of_bits, of_fields}
use lib.Ieee.Bits.{of_bits-to_bits, to_bits-lt}
use borrow.Author.Tests.{lt-ltb}
use Rattle.laws.proofs.Tests.{and_intro}
use Rattle.model.specs.Values.{Point, finite_bits}
use Rattle.model.specs.Balance.{lt_bits, le_bits, coordinate_of}

-- the test that the code makes
abbrev pub between : Float → Bool
between x = lt (neg (of_bits binary64 0x7ff0000000000000)) x && lt x (of_bits binary64 0x7ff0000000000000)

between_nan : between nan ≡ false
unfolding lt neg of_bits
between_nan = refl

between_inf : (s : Bool) → between (inf s) ≡ false
unfolding lt neg of_bits
between_inf true = refl
between_inf false = refl

between_fin : (s : Bool) (m : ℕ) (e : ℤ) → between (fin s m e) ≡ true
unfolding lt neg of_bits
between_fin s m e = refl

-- a pattern whose exponent is all ones is no finite float's
special : (s b z : Bool) (m : ℕ) (e : ℤ) → cond z (inf b) nan ≡ fin s m e → ⊥
special s b true m e h = let z : ◌≡◌ {A = ℕ} 0 1 = cc in omega arith
special s b false m e h = let z : ◌≡◌ {A = ℕ} 0 1 = cc in omega arith

ones_special : (b : Bool) (x t : ℕ) → x ≡ 2047 → of_fields binary64 b x t ≡ cond (eqb t 0) (inf b) nan
unfolding of_fields
ones_special b x t h = rw h refl

not_all_ones : (s : Bool) (m : ℕ) (e : ℤ) (w : ℕ) → of_bits binary64 w ≡ fin s m e → w % 9223372036854775808 / 4503599627370496 ≡ 2047 → ⊥
unfolding of_bits
not_all_ones s m e w h ones = special s (leb 9223372036854775808 w) (eqb (w % 4503599627370496) 0) m e
    (sym (ones_special (leb 9223372036854775808 w) (w % 9223372036854775808 / 4503599627370496) (w % 4503599627370496) ones) ∙ h)

finite_word : (w : ℕ) → w < 2 ^ 64 → (w % 9223372036854775808 / 4503599627370496 ≡ 2047 → ⊥) → finite_bits w ≡ true
unfolding finite_bits
finite_word w h ones = and_intro (lt-ltb w (2 ^ 64) h) (lt-ltb (w % 9223372036854775808 / 4503599627370496) 2047 (omega arith))

finite_fin : (s : Bool) (m : ℕ) (e : ℤ) → T (fits binary64 (fin s m e)) → finite_bits (to_bits binary64 (fin s m e)) ≡ true
finite_fin s m e h = finite_word (to_bits binary64 (fin s m e)) (to_bits-lt binary64 (fin s m e) h) (not_all_ones s m e (to_bits binary64 (fin s m e)) (of_bits-to_bits binary64 (fin s m e) h))

-- 28, of a float
pub finite_test : (x : Float) → fits binary64 x ≡ true → between x ≡ finite_bits (to_bits binary64 x)
unfolding finite_bits to_bits
finite_test nan h = between_nan
finite_test (inf true) h = between_inf true
finite_test (inf false) h = between_inf false
finite_test (fin s m e) h = between_fin s m e ∙ sym (finite_fin s m e (rw h tt))

-- floats compare as their patterns do
pub le_test : (x y : Float) → fits binary64 x ≡ true → fits binary64 y ≡ true → le x y ≡ le_bits (to_bits binary64 x) (to_bits binary64 y)
unfolding le_bits
le_test x y hx hy = sym (ap (λ (z : Float). le z (of_bits binary64 (to_bits binary64 y))) (of_bits-to_bits binary64 x (rw hx tt)) ∙ ap (le x) (of_bits-to_bits binary64 y (rw hy tt)))

pub lt_test : (x y : Float) → fits binary64 x ≡ true → fits binary64 y ≡ true → lt x y ≡ lt_bits (to_bits binary64 x) (to_bits binary64 y)
unfolding lt_bits
lt_test x y hx hy = sym (ap (λ (z : Float). lt z (of_bits binary64 (to_bits binary64 y))) (of_bits-to_bits binary64 x (rw hx tt)) ∙ ap (lt x) (of_bits-to_bits binary64 y (rw hy tt)))

-- the coordinate on an axis, arm by arm
pub axis_first : (a : ℕ) (p : Point) → a ≡ 0 → p.x ≡ coordinate_of a p
axis_first a p e = rw e refl

pub axis_second : (a : ℕ) (p : Point) → a ≡ 1 → p.y ≡ coordinate_of a p
axis_second a p e = rw e refl

pub axis_last : (a : ℕ) (p : Point) → (a ≡ 0 → ⊥) → (a ≡ 1 → ⊥) → p.z ≡ coordinate_of a p
axis_last zero p h k = absurd (h refl)
axis_last (suc zero) p h k = absurd (k refl)
axis_last (suc (suc a)) p h k = refl
