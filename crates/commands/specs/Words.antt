-- Numbers and words of a text. Assumes nothing.
use Rattle.std.specs.Prelude.{Bool, cond, not, ◌&&◌, ◌||◌, List, [], ◌∷◌, ℕ, suc, ◌+◌, ◌*◌, ◌-◌, ◌^◌, ltb, eqb, None, Option, Some}
use Rattle.model.specs.Text.{is_digit}
use Rattle.commands.specs.declared.words.Kind.{Kind}
use Rattle.commands.specs.declared.words.Kind.TheVariants as kind

-- the number that digits give behind those that gave n
unfoldable pub digits_from : ℕ → List ℕ → Option ℕ
digits_from n [] = Some n
digits_from n (b ∷ bs) = let v = 10 * n + (b - 48) in let more = digits_from v bs in cond (is_digit b && ltb v (2 ^ 32)) more None

-- a number is digits alone, one at least, and below 2^32
unfoldable pub number_in : List ℕ → Option ℕ
number_in [] = None
number_in (b ∷ bs) = digits_from 0 (b ∷ bs)

-- space, tab, carriage return
unfoldable pub is_blank : ℕ → Bool
is_blank b = (eqb b 32 || eqb b 9) || eqb b 13

-- blanks stand between words, and a line feed ends a line
unfoldable pub belongs : Kind → ℕ → Bool
belongs kind.Blanks b = is_blank b
belongs kind.Word b = not (is_blank b)
belongs kind.Line b = not (eqb b 10)

-- how many of the first bytes pass a test
unfoldable pub leading : (ℕ → Bool) → List ℕ → ℕ
leading p [] = 0
leading p (b ∷ bs) = let n = leading p bs in cond (p b) (suc n) 0
