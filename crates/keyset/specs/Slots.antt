-- Keys spread over a table of slots: a slot holds 0, or one more than the index of a key. Assumes nothing.
use Rattle.std.specs.Prelude.{◌≡◌, List, ◌⊎◌, ℕ, ◌+◌, ◌*◌, ◌-◌, ◌/◌, ◌%◌, ◌≤◌, ◌<◌, ◌^◌, get_or}
use Rattle.keyset.specs.declared.Search.{Search}
use Rattle.keyset.specs.declared.Search.TheVariants.{Distinct, Repeated, GaveUp}

-- how many slots the table has: one for each value of `slot_of`, and 64 that a search from the last may go through
abbrev pub slot_count : ℕ
slot_count = 8256

-- the low and the high 32 bits of a key, each spread over the slots
unfoldable pub low_part : ℕ → ℕ
low_part x = x % 2 ^ 32 * 2246822519 / 2 ^ 19 % 8192

unfoldable pub high_part : ℕ → ℕ
high_part x = x / 2 ^ 32 * 2654435769 / 2 ^ 19 % 8192

-- where the search for a key starts
unfoldable pub slot_of : ℕ → ℕ
slot_of x = (low_part x + high_part x) % 8192

-- the key that slot t stands for
abbrev pub key_at : List ℕ → List ℕ → ℕ → ℕ
key_at keys table t = get_or keys (get_or table t 0 - 1) 0

-- a search for x that went through the slots from h to r: 64 at the most
pub record Probed (keys table : List ℕ) (x h r : ℕ) : Type 0 where
  pub from : h ≤ r
  pub to : r ≤ h + 64
  pub passed : (t : ℕ) → h ≤ t → t < r → (get_or table t 0 ≡ 0 → ⊥) × (key_at keys table t ≡ x → ⊥)
  pub found : r < h + 64 → (get_or table r 0 ≡ 0) ⊎ (key_at keys table r ≡ x)

-- the first n keys, no two the same
abbrev pub KeysApart : List ℕ → ℕ → Type 0
KeysApart keys n = (p q : ℕ) → p < q → q < n → get_or keys p 0 ≡ get_or keys q 0 → ⊥

-- what a search found of the first n keys; one that gave up says nothing
abbrev pub Searched : List ℕ → ℕ → Search → Type 0
Searched keys n Distinct = KeysApart keys n
Searched keys n Repeated = KeysApart keys n → ⊥
Searched keys n GaveUp = Unit {0}
