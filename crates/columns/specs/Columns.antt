-- A block's memory by columns, where links are places: the tests of the dart at a place p among n. Assumes nothing.
--   all_below t n    t holds of each place below n
--   Kind             what a kind word and a link word may be
--   Ranged           question 3 of memory, and zeros where nothing is stored
--   link_test, third_test, label_test, point_test    questions 5, 6, 7 and 8 of one dart; 4 is the model's `finite`
--   dart_test, far_test    all that question 2 asks of one dart: by itself, and with the darts that it links to
use Rattle.std.specs.Prelude.{◌≡◌, Bool, true, cond, not, ◌&&◌, ◌||◌, List, [], ◌∷◌, ◌++◌, ℕ, zero, suc, ◌+◌, ◌*◌, ◌≤◌, ◌<◌, ◌^◌, leb, ltb, eqb, get_or}
use Rattle.model.specs.Values.{same_point, finite, room, blocks}
use Rattle.model.specs.Image.{column, dart_in, label_in, is_sewn_word, is_critical_word, other_in}

unfoldable pub all_below : (ℕ → Bool) → ℕ → Bool
all_below t zero = true
all_below t (suc n) = all_below t n && t n

-- what f is at the place before, 0 at the first
abbrev pub before : (ℕ → ℕ) → ℕ → ℕ
before f zero = 0
before f (suc p) = f p

-- how many darts
abbrev pub count : List ℕ → ℕ
count m = get_or m 2 0

-- 3: number, counter, dart count, five zeros
unfoldable pub header_test : List ℕ → Bool
header_test m = ltb (get_or m 0 0) blocks && ltb (get_or m 1 0) (2 ^ 32) && leb (get_or m 2 0) room
    && eqb (get_or m 3 0) 0 && eqb (get_or m 4 0) 0 && eqb (get_or m 5 0) 0 && eqb (get_or m 6 0) 0 && eqb (get_or m 7 0) 0

-- 5, but for next being one to one
unfoldable pub link_test : List ℕ → ℕ → ℕ → Bool
link_test m n p = (ltb (column m 1 p) n && ltb (column m 2 p) n) && (not (eqb (column m 2 p) p) && eqb (column m 2 (column m 2 p)) p)

-- 6: p is sewn to the dart at l, and next p to the one at z
unfoldable pub sewn_test : List ℕ → ℕ → ℕ → ℕ → Bool
sewn_test m p l z = is_sewn_word (column m 3 l) && eqb (column m 4 l) p && not (eqb l p) && eqb (column m 1 z) l

unfoldable pub third_test : List ℕ → ℕ → ℕ → Bool
third_test m n p = eqb (column m 3 (column m 1 p)) (column m 3 p)
    && (not (is_sewn_word (column m 3 p)) || ((ltb (column m 4 p) n && ltb (column m 4 (column m 1 p)) n) && sewn_test m p (column m 4 p) (column m 4 (column m 1 p))))

-- 7, but for labels being different: of block `me`, with its counter
unfoldable pub label_test : ℕ → ℕ → ℕ → ℕ → Bool
label_test me counter k a = not (is_critical_word k) || (not (eqb (other_in k) me) && (not (eqb (label_in a).maker me) || ltb (label_in a).number counter))

abbrev pub own_test : List ℕ → ℕ → Bool
own_test m p = label_test (get_or m 0 0) (get_or m 1 0) (column m 3 p) (column m 4 p)

-- the labels of the critical of the first n darts, in order
unfoldable pub codes : List ℕ → ℕ → List ℕ
codes m zero = []
codes m (suc n) = cond (is_critical_word (column m 3 n)) (codes m n ++ column m 4 n ∷ []) (codes m n)

-- 8: the points at p and v are one
abbrev pub same_at : List ℕ → ℕ → ℕ → Bool
same_at m p v = same_point (dart_in m p).point (dart_in m v).point

unfoldable pub point_test : List ℕ → ℕ → Bool
point_test m p = same_at m p (column m 1 (column m 2 p)) && (not (is_sewn_word (column m 3 p)) || same_at m p (column m 1 (column m 4 p)))

-- QUESTION 2 of one dart
-- its serial is above the last one, its point finite, next and opposite held
unfoldable pub place_test : List ℕ → ℕ → ℕ → ℕ → Bool
place_test m n last p = ltb last (column m 0 p) && ltb (column m 0 p) (2 ^ 32) && finite (dart_in m p).point
    && ltb (column m 1 p) n && ltb (column m 2 p) n && not (eqb (column m 2 p) p)

-- of block `me`, with its counter: what a critical dart's words name is right
unfoldable pub critical_test : ℕ → ℕ → ℕ → ℕ → Bool
critical_test me counter k a = ltb (other_in k) blocks && ltb a (2 ^ 48)
    && not (eqb (other_in k) me) && (not (eqb (label_in a).maker me) || ltb (label_in a).number counter)

unfoldable pub kind_test : ℕ → ℕ → ℕ → ℕ → ℕ → Bool
kind_test me counter n k a = cond (is_critical_word k) (critical_test me counter k a) ((eqb k 0 && eqb a 0) || (eqb k 1 && ltb a n))

unfoldable pub dart_test : List ℕ → ℕ → ℕ → Bool
dart_test m n p = place_test m n (before (column m 0) p) p && kind_test (get_or m 0 0) (get_or m 1 0) n (column m 3 p) (column m 4 p)

-- with the darts that it links to, where each passes its own test
unfoldable pub far_test : List ℕ → ℕ → Bool
far_test m p = (eqb (column m 2 (column m 2 p)) p && eqb (column m 3 (column m 1 p)) (column m 3 p) && same_at m p (column m 1 (column m 2 p)))
    && (not (is_sewn_word (column m 3 p)) || (sewn_test m p (column m 4 p) (column m 4 (column m 1 p)) && same_at m p (column m 1 (column m 4 p))))

-- FACTS that the tests leave behind
pub data Kind (k a : ℕ) : Type 0 where
  kind_free : k ≡ 0 → a ≡ 0 → Kind k a
  kind_sewn : k ≡ 1 → Kind k a
  kind_critical : is_critical_word k ≡ true → other_in k < blocks → a < 2 ^ 48 → Kind k a

pub record Ranged (m : List ℕ) : Type 0 where
  pub number_small : get_or m 0 0 < blocks
  pub counter_small : get_or m 1 0 < 2 ^ 32
  pub few : count m ≤ room
  pub head : (get_or m 3 0 ≡ 0) × (get_or m 4 0 ≡ 0) × (get_or m 5 0 ≡ 0) × (get_or m 6 0 ≡ 0) × (get_or m 7 0 ≡ 0)
  pub above : (p : ℕ) → p < count m → before (column m 0) p < column m 0 p
  pub serial_small : (p : ℕ) → p < count m → column m 0 p < 2 ^ 32
  pub kinds : (p : ℕ) → p < count m → Kind (column m 3 p) (column m 4 p)
  pub rest : (i : ℕ) → 8 + count m * 8 ≤ i → get_or m i 0 ≡ 0

-- links lead to places below n
pub record Places (m : List ℕ) (n : ℕ) : Type 0 where
  pub next_lt : (p : ℕ) → p < n → column m 1 p < n
  pub opposite_lt : (p : ℕ) → p < n → column m 2 p < n

-- and so do sewn darts' third links
abbrev pub SewnPlaces : List ℕ → ℕ → Type 0
SewnPlaces m n = (p : ℕ) → p < n → is_sewn_word (column m 3 p) ≡ true → column m 4 p < n

-- f is one to one below n
abbrev pub OneToOne : (ℕ → ℕ) → ℕ → Type 0
OneToOne f n = (p q : ℕ) → p < n → q < n → f p ≡ f q → p ≡ q

-- all points are finite
abbrev pub Finite : List ℕ → ℕ → Type 0
Finite m n = (p : ℕ) → p < n → finite (dart_in m p).point ≡ true

-- every dart's links are right, and no two have the same next
pub record Links (m : List ℕ) (n : ℕ) : Type 0 where
  pub each : (p : ℕ) → p < n → link_test m n p ≡ true
  pub apart : OneToOne (column m 1) n

-- every dart by itself is right, and no two have the same next
pub record Darts (m : List ℕ) (n : ℕ) : Type 0 where
  pub each : (p : ℕ) → p < n → dart_test m n p ≡ true
  pub apart : OneToOne (column m 1) n
