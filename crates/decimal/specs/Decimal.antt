-- Decimal texts, and the float nearest to each. Assumes nothing.
-- A text is an optional minus, digits, perhaps a point with digits behind it, perhaps an exponent: e or E, an optional sign, one
-- or two digits.
use Rattle.std.specs.Prelude.{ℕ, ◌+◌, ◌-◌, ◌*◌, ◌^◌, Bool, true, false, cond, ◌&&◌, ◌||◌, List, [], ◌∷◌, length, drop, ◌==◌, nat_le, nat_lt, None, Option, Some}
use Rattle.std.specs.Option.{option_map}
use Rattle.std.specs.Float.{binary64}
use Rattle.std.specs.Float.Ieee.{Float, round}
use Rattle.model.specs.Text.{is_digit}
use Rattle.commands.specs.Words.{number_in, leading}
use Rattle.decimal.specs.declared.Digits.{Digits}
use Rattle.decimal.specs.declared.Power.{Power}
use Rattle.decimal.specs.declared.Power.TheVariants as power

-- THE VALUE: the float nearest to ±m × 10^up / 10^down, of m below 10^15 and a power of ten between 10^−22 and 10^22
unfoldable pub nearest_to : Bool → ℕ → ℕ → ℕ → Option Float
nearest_to minus m up down =
    cond (nat_lt m (10 ^ 15) && (nat_le (up - down) 22 && nat_le (down - up) 22))
    (Some (round binary64 minus (m * 10 ^ up) (10 ^ down)))
    None

-- each place behind the point is a power of ten downward
unfoldable pub scaled_by : Bool → ℕ → ℕ → Option Power → Option Float
scaled_by minus m places (Some (power.Up k)) = nearest_to minus m k places
scaled_by minus m places (Some (power.Down k)) = nearest_to minus m 0 (places + k)
scaled_by minus m places None = None

-- THE EXPONENT: one or two digits
unfoldable pub short_of : List ℕ → Option ℕ
short_of t = cond (nat_le (length t) 2) (number_in t) None

abbrev pub up_by : Option ℕ → Option Power
up_by = option_map power.Up

abbrev pub down_by : Option ℕ → Option Power
down_by = option_map power.Down

-- behind an optional sign
unfoldable pub signed_of : List ℕ → Option Power
signed_of [] = None
signed_of (b ∷ t) = cond (b == 45) (down_by (short_of t)) (cond (b == 43) (up_by (short_of t)) (up_by (short_of (b ∷ t))))

-- behind e or E; nothing stands for the power 0
unfoldable pub exponent_of : List ℕ → Option Power
exponent_of [] = Some (power.Up 0)
exponent_of (b ∷ t) = cond (b == 101 || b == 69) (signed_of t) None

-- THE DIGITS that a text starts with: the number that they give behind those that gave n
unfoldable pub number_at : ℕ → List ℕ → ℕ
number_at n [] = n
number_at n (b ∷ t) = let more = number_at (10 * n + (b - 48)) t in cond (is_digit b) more n

-- THE TEXT behind the point: digits, one at least, then the exponent
unfoldable pub fraction_of : Bool → ℕ → List ℕ → Option Float
fraction_of minus n t =
    let places = leading is_digit t in
    cond (places == 0) None (scaled_by minus (number_at n t) places (exponent_of (drop places t)))

-- behind the first digits: a point and what stands behind it, or the exponent
unfoldable pub behind_of : Bool → ℕ → List ℕ → Option Float
behind_of minus n [] = nearest_to minus n 0 0
behind_of minus n (b ∷ t) = cond (b == 46) (fraction_of minus n t) (scaled_by minus n 0 (exponent_of (b ∷ t)))

-- without its sign: digits, one at least, and what stands behind them
unfoldable pub unsigned_of : Bool → List ℕ → Option Float
unsigned_of minus t =
    let count = leading is_digit t in
    cond (count == 0) None (behind_of minus (number_at 0 t) (drop count t))

-- a whole text; a minus before a zero gives −0
unfoldable pub decimal_of : List ℕ → Option Float
decimal_of [] = None
decimal_of (b ∷ t) = cond (b == 45) (unsigned_of true t) (unsigned_of false (b ∷ t))

-- IN THE CODE a number from 10^15 on counts as 10^15
unfoldable pub capped : ℕ → ℕ
capped n = cond (nat_lt n (10 ^ 15)) n (10 ^ 15)

unfoldable pub digits_of : ℕ → List ℕ → Digits
digits_of n t = record { value = capped (number_at n t); count = leading is_digit t }
