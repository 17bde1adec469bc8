-- The keys of a mesh: the code of each critical dart's label × 65,536 + the dart's number; and keys in order, two by two. Assumes nothing.
use Rattle.std.specs.Prelude.{Bool, true, false, cond, not, ◌&&◌, ◌≡◌, List, [], ◌∷◌, ◌++◌, ℕ, zero, suc, ◌+◌, ◌*◌, ◌/◌, ◌%◌, ◌<◌, ◌^◌, eqb, length, get_or}
use Rattle.model.specs.Values.{room}
use Rattle.model.specs.Image.{column, is_critical_word}
use Rattle.columns.specs.Columns.{count}
use Rattle.mesh.specs.Parts.{part}
use Rattle.pairing.specs.Numbers.{Held, side_test, meet_test}

-- labels are codes below 2^48
abbrev pub Short : List ℕ → Type 0
Short b = (p : ℕ) → p < count b → is_critical_word (column b 3 p) ≡ true → column b 4 p < 2 ^ 48

abbrev pub dart_key : List ℕ → ℕ → ℕ → ℕ
dart_key b i p = column b 4 p * 65536 + (i * room + p)

-- of the dart at place p of block i, none where it is not critical
abbrev pub key_of : List ℕ → ℕ → ℕ → List ℕ
key_of b i p = cond (is_critical_word (column b 3 p)) (dart_key b i p ∷ []) []

-- of the first n darts
unfoldable pub keys_of : List ℕ → ℕ → ℕ → List ℕ
keys_of b i zero = []
keys_of b i (suc n) = keys_of b i n ++ key_of b i n

-- of the first i blocks
unfoldable pub all_keys : List ℕ → ℕ → List ℕ
all_keys m zero = []
all_keys m (suc i) = all_keys m i ++ keys_of (part m i) i (count (part m i))

-- each key has the number of a dart
abbrev pub HeldKeys : List ℕ → List ℕ → Type 0
HeldKeys m l = (t : ℕ) → t < length l → Held m (get_or l t 0 % 65536)

-- TWO BY TWO
-- the first key, if any, has another code
unfoldable pub fresh : ℕ → List ℕ → Bool
fresh a [] = true
fresh a (z ∷ l) = not (eqb a (z / 65536))

-- x and y have one code, what follows begins with another, and the two pass the test
abbrev pub two_test : (ℕ → ℕ → Bool) → ℕ → ℕ → List ℕ → Bool
two_test t x y l = eqb (x / 65536) (y / 65536) && fresh (x / 65536) l && t x y

unfoldable pub in_pairs : (ℕ → ℕ → Bool) → List ℕ → Bool
in_pairs t [] = true
in_pairs t (x ∷ []) = false
in_pairs t (x ∷ y ∷ l) = two_test t x y l && in_pairs t l

-- the first two pass the test, and so on
unfoldable pub each_pair : (ℕ → ℕ → Bool) → List ℕ → Bool
each_pair t [] = true
each_pair t (x ∷ []) = true
each_pair t (x ∷ y ∷ l) = t x y && each_pair t l

-- 25 and 26 of two keys
unfoldable pub label_pair : List ℕ → List ℕ → ℕ → ℕ → Bool
label_pair m t x y = side_test m t (x % 65536) (y % 65536) && side_test m t (y % 65536) (x % 65536)

unfoldable pub point_pair : List ℕ → ℕ → ℕ → Bool
point_pair m x y = meet_test m (x % 65536) (y % 65536) && meet_test m (y % 65536) (x % 65536)
