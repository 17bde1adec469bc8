-- Finite patterns and finite floats: neither is a NaN's, and a pattern comes back from its float. Assumes nothing.
--   pattern_back     of a word of memory
--   point_finite, point_patterns    the point of three words
use Prim.Native.Nat.{ℕ, ◌%◌, ◌/◌, ◌<◌, ◌^◌}
use mathlib.Core.Path.{◌≡◌}
use mathlib.Core.Bool.{true, false, false≢true, not, ◌&&◌}
use mathlib.Core.List.{List}
use native.Mathlib.Omega.{arith}
use lib.Dec.{T, ltb}
use lib.Ieee.{Float, nan, inf, fin, binary64, to_bits, of_bits, nan_bits, is_nan}
use lib.Ieee.Bits.{to_bits-of_bits, nan_bits_is}
use borrow.Author.Tests.{lt-ltb, ltb-true, ne_eqb}
use Rattle.laws.proofs.Tests.{and_left, and_right}
use Rattle.model.specs.Values.{finite_bits, finite}
use Rattle.model.specs.Image.{column, dart_in}
use Rattle.memory.specs.Point.{point_of, patterns, FinitePoint, FiniteAt}

pub finite_is : (w : ℕ) → w < 2 ^ 64 → ltb (w % 9223372036854775808 / 4503599627370496) 2047 ≡ finite_bits w
unfolding finite_bits
finite_is w h = rw (lt-ltb w (2 ^ 64) h)

module _ (w : ℕ) (h : finite_bits w ≡ true) where
  in_width : w < 2 ^ 64
  unfolding finite_bits
  in_width = ltb-true w (2 ^ 64) (and_left _ _ h)

  no_nan_bits : nan_bits binary64 w ≡ false
  unfolding finite_bits nan_bits
  no_nan_bits =
      let l : w % 9223372036854775808 / 4503599627370496 < 2047 = ltb-true _ _ (and_right (ltb w (2 ^ 64)) _ h) in
      rw (ne_eqb (w % 9223372036854775808 / 4503599627370496) 2047 (λ e. omega arith))

  pub no_nan_pattern : T (not (nan_bits binary64 w))
  no_nan_pattern = rw no_nan_bits tt

  pub pattern_back : to_bits binary64 (of_bits binary64 w) ≡ w
  pattern_back = to_bits-of_bits binary64 w in_width (rw (← nan_bits_is binary64 w, no_nan_bits) tt)

  finite_back : finite_bits (to_bits binary64 (of_bits binary64 w)) ≡ true
  finite_back = rw pattern_back h

pub no_nan_float : (x : Float) → finite_bits (to_bits binary64 x) ≡ true → T (not (is_nan x))
unfolding is_nan finite_bits to_bits
no_nan_float nan h = absurd (false≢true h)
no_nan_float (inf s) h = tt
no_nan_float (fin s m e) h = tt

module _ (x y z : ℕ) (hx : finite_bits x ≡ true) (hy : finite_bits y ≡ true) (hz : finite_bits z ≡ true) where
  pub point_finite : FinitePoint (point_of x y z)
  point_finite = record { on_x = finite_back x hx; on_y = finite_back y hy; on_z = finite_back z hz }

  pub point_patterns : patterns (point_of x y z) ≡ record { x = x; y = y; z = z }
  point_patterns = rw (pattern_back x hx, pattern_back y hy, pattern_back z hz)

-- the words of a dart whose point is finite
pub finite_at : (m : List ℕ) (p : ℕ) → finite (dart_in m p).point ≡ true → FiniteAt m p
unfolding finite
finite_at m p e =
    let xy = and_left (finite_bits (column m 5 p) && finite_bits (column m 6 p)) _ e in
    record {
      on_x = and_left (finite_bits (column m 5 p)) _ xy;
      on_y = and_right (finite_bits (column m 5 p)) _ xy;
      on_z = and_right (finite_bits (column m 5 p) && finite_bits (column m 6 p)) _ e;
    }
