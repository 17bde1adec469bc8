-- Texts that are read, with the bits of the float that each gives, and texts that are refused. Computed. Assumes nothing.
use Rattle.std.specs.Prelude.{◌≡◌, ℕ, List, [], ◌∷◌, map, refl, None, Some}
use Prim.Native.String.{String}
use Rattle.std.specs.Float.{binary64}
use Rattle.std.specs.Float.Ieee.{round, of_bits}
use Rattle.model.specs.Text.{bytes}
use Rattle.model.specs.Text.{is_digit}
use Rattle.commands.specs.Words.{digits_from, number_in, leading}
use Rattle.decimal.specs.Decimal.{nearest_to, scaled_by, short_of, signed_of, exponent_of}
use Rattle.decimal.specs.Decimal.{number_at, fraction_of, behind_of, unsigned_of, decimal_of}

-- opens every definition on the way
unfoldable everything : ℕ
unfolding bytes round of_bits is_digit digits_from number_in leading nearest_to scaled_by short_of signed_of exponent_of number_at fraction_of behind_of unsigned_of decimal_of
everything = 0

-- the bits are those that C's strtod gives
abbrev read_texts : List (String × ℕ)
read_texts =
    ("0.1", 0x3fb999999999999a) ∷ ("2.5", 0x4004000000000000) ∷ ("-3.25", 0xc00a000000000000) ∷ ("1e22", 0x4480f0cf064dd592)
    ∷ ("123456789012345", 0x42dc12218377de40) ∷ ("0.000001", 0x3eb0c6f7a0b5ed8d) ∷ ("1e-22", 0x3b5e392010175ee6)
    ∷ ("7E-3", 0x3f7cac083126e979) ∷ ("0", 0) ∷ ("-0.0", 0x8000000000000000) ∷ ("999999999999999e22", 0x479e17b843576913) ∷ []

reads : map (λ t. decimal_of (bytes t.0)) read_texts ≡ map (λ t. Some (of_bits binary64 t.1)) read_texts
unfolding everything
reads = refl

abbrev refused_texts : List String
refused_texts =
    "" ∷ "." ∷ "5." ∷ ".5" ∷ "1.2.3" ∷ "1e23" ∷ "1e-23" ∷ "1234567890123456" ∷ "+1" ∷ "--1" ∷ "-"
    ∷ "0x10" ∷ "nan" ∷ "inf" ∷ "1e" ∷ "1e+" ∷ "1e007" ∷ "1 " ∷ []

refuses : map (λ t. decimal_of (bytes t)) refused_texts ≡ map (λ t. None) refused_texts
unfolding everything
refuses = refl
