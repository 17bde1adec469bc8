-- The thousandths of a float, by what the code tests one after the other. Assumes nothing.
use Rattle.std.specs.Prelude.{None, Some}
use Rattle.std.proofs.Common.{◌≡◌, ℕ, ◌<◌, ◌≤◌, true, false, sym, ap, ◌∙◌, le-leb}
use borrow.Author.Tests.{lt-leb}
use lib.Ieee.{Float, binary64, add, mul, neg, lt, to_unsigned, of_bits}
use Rattle.corners.specs.Thousandths.{digit_count, scaled, thousandths_in, thousandths_of}

abbrev low : Float
low = neg (of_bits binary64 4607182418800017408)

abbrev high : Float
high = of_bits binary64 4895412794951729152

-- what the code makes of a size
abbrev made : Float → Float
made z = add binary64 (mul binary64 z (of_bits binary64 4652007308841189376)) (of_bits binary64 4602678819172646912)

module _ (x : Float) {z : Float} (e : z ≡ digit_count x) where
  same : made z ≡ scaled x
  unfolding scaled
  same = ap made e

  pub far_low : lt low (made z) ≡ false → None ≡ thousandths_of x
  unfolding thousandths_of
  far_low a = rw (sym (ap (lt low) same) ∙ a)

  module _ (a : lt low (made z) ≡ true) where
    pub far_high : lt (made z) high ≡ false → None ≡ thousandths_of x
    unfolding thousandths_of
    far_high b = rw (sym (ap (lt low) same) ∙ a, sym (ap (λ (y : Float). lt y high) same) ∙ b)

    module _ (b : lt (made z) high ≡ true) {n : ℕ} (t : n ≡ to_unsigned 64 (made z)) where
      told : thousandths_in x n ≡ thousandths_of x
      unfolding thousandths_of
      told = rw (sym (ap (lt low) same) ∙ a, sym (ap (λ (y : Float). lt y high) same) ∙ b) (ap (thousandths_in x) (t ∙ ap (to_unsigned 64) same))

      pub far_many : 1000000000000 < n → None ≡ thousandths_of x
      unfolding thousandths_in
      far_many h = rw (lt-leb n 1000000000000 h) at told

      pub are : n ≤ 1000000000000 → Some ((lt x (of_bits binary64 0)), n) ≡ thousandths_of x
      unfolding thousandths_in
      are h = rw (le-leb n 1000000000000 h) at told
