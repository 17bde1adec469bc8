-- Text: quoted bytes, numbers in decimal, a third link as a person reads it. Assumes nothing.
use Rattle.std.specs.Prelude.{Bool, cond, ◌&&◌, List, [], ◌∷◌, ◌++◌, ℕ, zero, suc, ◌+◌, ◌/◌, ◌%◌, leb, ltb}
use Prim.Native.String as text
use Prim.Native.Char as char
use Rattle.model.specs.Values.{Third, free, sewn, critical}

-- the bytes of a quoted text
unfoldable pub bytes : text.String → List ℕ
bytes text.[] = []
bytes (text.◌∷◌ c s) = char.code c ∷ bytes s

unfoldable pub is_digit : ℕ → Bool
is_digit c = leb 48 c && leb c 57

-- a number in decimal, of n digits at the most
unfoldable pub digits : ℕ → ℕ → List ℕ
digits zero v = []
digits (suc n) v = let more = digits n (v / 10) ++ (48 + v % 10) ∷ [] in cond (ltb v 10) ((48 + v) ∷ []) more

-- every number of a listing or a page has at most 10 digits
unfoldable pub decimal : ℕ → List ℕ
decimal v = digits 10 v

-- "Others end `sewn S` or `crit O M.N.P`"
unfoldable pub third_text : Third → List ℕ
third_text free = bytes "free"
third_text (sewn s) = bytes "sewn " ++ decimal s
third_text (critical o l) = bytes "crit " ++ decimal o ++ bytes " " ++ decimal l.maker ++ bytes "." ++ decimal l.number ++ bytes "." ++ decimal l.position
