-- A float as whole thousandths, rounded, up to 10^9 in size. Assumes nothing.
use Rattle.std.specs.Prelude.{ℕ, Bool, cond, ◌&&◌, from_bits, nat_le, Float, None, Option, Some}
use Rattle.std.specs.Float.{binary64}
use Rattle.std.specs.Float.Ieee.{add, mul, neg, lt, to_unsigned}

-- a float's size
unfoldable pub digit_count : Float → Float
digit_count x = cond (lt x (from_bits binary64 0)) (neg x) x

-- a thousand times it, and a half
unfoldable pub scaled : Float → Float
scaled x = add binary64 (mul binary64 (digit_count x) (from_bits binary64 4652007308841189376)) (from_bits binary64 4602678819172646912)

-- so many thousandths, if they are few enough
unfoldable pub thousandths_in : Float → ℕ → Option (Bool × ℕ)
thousandths_in x n = cond (nat_le n 1000000000000) (Some ((lt x (from_bits binary64 0)), n)) None

-- the whole part of what lies between -1 and 2^64
unfoldable pub thousandths_of : Float → Option (Bool × ℕ)
thousandths_of x =
    cond (lt (neg (from_bits binary64 4607182418800017408)) (scaled x) && lt (scaled x) (from_bits binary64 4895412794951729152))
    (thousandths_in x (to_unsigned 64 (scaled x)))
    None
