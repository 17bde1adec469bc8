-- The darts of a mesh by number: a block's number × 4,096 + a place; their words, and tests of two darts. Assumes nothing.
use Rattle.std.specs.Prelude.{Bool, true, ◌&&◌, ◌≡◌, List, map, ℕ, ◌+◌, ◌*◌, ◌/◌, ◌%◌, ◌<◌, eqb, length, get_or}
use Rattle.model.specs.Values.{room}
use Rattle.model.specs.Lists.{all}
use Rattle.model.specs.Sound.{blocks_right}
use Rattle.model.specs.Image.{column, other_in, block_in, holds_block}
use Rattle.model.specs.Calls.{memories}
use Rattle.columns.specs.Columns.{count}
use Rattle.memory.specs.declared.point.Point.{Point}
use Rattle.memory.specs.Point.{point_of}
use Rattle.mesh.specs.Parts.{block_count, part}

-- questions 2 and 23 were answered yes
pub record MeshAsked (m : List ℕ) : Type 0 where
  pub images : all (λ b. holds_block b) (memories m) ≡ true
  pub numbered : blocks_right (map block_in (memories m)) ≡ true

-- word f of dart g
abbrev pub word : List ℕ → ℕ → ℕ → ℕ
word m f g = column (part m (g / room)) f (g % room)

-- a dart of the mesh
pub record Held (m : List ℕ) (g : ℕ) : Type 0 where
  pub block_lt : g / room < block_count m
  pub place_lt : g % room < count (part m (g / room))

-- the next dart
abbrev pub next_number : List ℕ → ℕ → ℕ
next_number m g = g / room * room + word m 1 g

-- where each dart's previous one stands, by the dart's number
pub record PlacesBefore (m t : List ℕ) : Type 0 where
  pub len : length t ≡ 65536
  pub at : (i p : ℕ) → i < block_count m → p < count (part m i) → get_or t (i * room + column (part m i) 1 p) 0 ≡ p

-- the same of the blocks below i and of the places below p of block i
pub record BeforeBelow (m t : List ℕ) (i p : ℕ) : Type 0 where
  pub len : length t ≡ 65536
  pub below : (j q : ℕ) → j < i → q < count (part m j) → get_or t (j * room + column (part m j) 1 q) 0 ≡ q
  pub here : (q : ℕ) → q < p → get_or t (i * room + column (part m i) 1 q) 0 ≡ q

abbrev pub before_of : List ℕ → ℕ → ℕ
before_of t g = g / room * room + get_or t g 0

-- the point of dart g
abbrev pub point_by : List ℕ → ℕ → Point
point_by m g = point_of (word m 5 g) (word m 6 g) (word m 7 g)

-- 25, of g that has a label with h: g names h's block, and next of g has the label of the dart before h
unfoldable pub side_test : List ℕ → List ℕ → ℕ → ℕ → Bool
side_test m t g h = eqb (other_in (word m 3 g)) (h / room) && eqb (word m 4 (next_number m g)) (word m 4 (before_of t h))

-- 26: g and next of h have one point
unfoldable pub meet_test : List ℕ → ℕ → ℕ → Bool
meet_test m g h = (eqb (word m 5 g) (word m 5 (next_number m h)) && eqb (word m 6 g) (word m 6 (next_number m h))) && eqb (word m 7 g) (word m 7 (next_number m h))
