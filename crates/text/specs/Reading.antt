-- What is read at a place of some bytes: blanks, digits, numbers in decimal. Assumes nothing.
--   Number       a number in its shortest form, of all the digits that stand there among n bytes
--   Ended        a number and the byte that ends it
--   Column       a number right-aligned in ten columns
-- Each `..Read` says of an answer that it is the one there is, or that there is none.
use Rattle.groups.specs.Slices.{MaybeRead}
use Rattle.std.specs.Prelude.{◌≡◌, Bool, true, false, ◌&&◌, List, [], ◌∷◌, ◌++◌, ◌≢◌, ℕ, ◌+◌, ◌^◌, ◌≤◌, ◌<◌, ltb, eqb, length, get_or, take, drop, None, Some}
use Rattle.laws.specs.Standing.{Stands}
use Rattle.model.specs.Text.{is_digit, decimal}
use Rattle.model.specs.Pages.{number_from, number_column}

-- k blanks, among n bytes, and then none
pub record PastBlanks (s : List ℕ) (from n k : ℕ) : Type 0 where
  pub within : k ≤ n
  pub before : (i : ℕ) → i < k → get_or s (from + i) 0 ≡ 32
  pub here : k < n → get_or s (from + k) 0 ≢ 32

-- DIGITS: the first i bytes are digits, of this value
pub record Digits (s : List ℕ) (from i v : ℕ) : Type 0 where
  pub small : v < 2 ^ 32
  pub each : (j : ℕ) → j < i → is_digit (get_or s (from + j) 0) ≡ true
  pub value : v ≡ number_from 0 (take i (drop from s))

-- all of them among n bytes
pub record Run (s : List ℕ) (from n v past : ℕ) : Type 0 where
  pub count : ℕ
  pub within : count ≤ n
  pub past_is : past ≡ from + count
  pub digits : Digits s from count v
  pub ended : count < n → is_digit (get_or s (from + count) 0) ≡ false

-- NUMBERS
pub record Number (s : List ℕ) (from n v past : ℕ) : Type 0 where
  pub small : v < 2 ^ 32
  pub stands : Stands s from (decimal v)
  pub within : length (decimal v) ≤ n
  pub past_is : past ≡ from + length (decimal v)
  pub ended : length (decimal v) < n → is_digit (get_or s (from + length (decimal v)) 0) ≡ false

pub record Ended (s : List ℕ) (from end v past : ℕ) : Type 0 where
  pub small : v < 2 ^ 32
  pub stands : Stands s from (decimal v ++ end ∷ [])
  pub past_is : past ≡ from + length (decimal v) + 1

pub record Column (s : List ℕ) (at v past : ℕ) : Type 0 where
  pub small : v < 2 ^ 32
  pub stands : Stands s at (number_column v)
  pub past_is : past ≡ at + 10

-- ANSWERS
abbrev pub DigitsRead : List ℕ → ℕ → ℕ → MaybeRead → Type 0
DigitsRead s from n (Some (v, past)) = Run s from n v past
DigitsRead s from n None = (v past : ℕ) → Number s from n v past → ⊥

abbrev pub NumberRead : List ℕ → ℕ → ℕ → MaybeRead → Type 0
NumberRead s from n (Some (v, past)) = Number s from n v past
NumberRead s from n None = (v past : ℕ) → Number s from n v past → ⊥

abbrev pub EndedRead : List ℕ → ℕ → ℕ → MaybeRead → Type 0
EndedRead s from end (Some (v, past)) = Ended s from end v past
EndedRead s from end None = (v past : ℕ) → Ended s from end v past → ⊥

abbrev pub ColumnRead : List ℕ → ℕ → MaybeRead → Type 0
ColumnRead s at (Some (v, past)) = Column s at v past
ColumnRead s at None = (v past : ℕ) → Column s at v past → ⊥

-- a zero before other digits
abbrev pub zero_first : List ℕ → ℕ → ℕ → Bool
zero_first s from past = eqb (get_or s from 0) 48 && ltb (from + 1) past
