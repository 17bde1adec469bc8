-- The darts of a transfer by their index in the message, from the arrays that are filled when it is read. Assumes nothing.
-- v: the vertex of each dart; x: its serial; b: the index of its face's start; z: the size of its face.
use Rattle.std.specs.Prelude.{◌≡◌, Bool, cond, not, ◌&&◌, ◌||◌, List, ℕ, suc, ◌+◌, ◌*◌, ◌-◌, ◌≤◌, ◌<◌, leb, ltb, eqb, get_or}
use Rattle.model.specs.Values.{message_darts}
use Rattle.model.specs.Arrival.{Side}

-- the index of the next dart along the face of the dart with index i
abbrev pub next_index : List ℕ → List ℕ → ℕ → ℕ
next_index b z i = cond (eqb (suc i) (get_or b i 0 + get_or z i 0)) (get_or b i 0) (suc i)

abbrev pub side_at : List ℕ → List ℕ → List ℕ → List ℕ → ℕ → Side
side_at v x b z i = record { serial = get_or x i 0; next = get_or x (next_index b z i) 0; tail = get_or v i 0; head = get_or v (next_index b z i) 0 }

-- the faces are segments of the first k indices
pub record Segments (b z : List ℕ) (k : ℕ) : Type 0 where
  pub start_le : (i : ℕ) → i < k → get_or b i 0 ≤ i
  pub end_above : (i : ℕ) → i < k → i < get_or b i 0 + get_or z i 0
  pub end_within : (i : ℕ) → i < k → get_or b i 0 + get_or z i 0 ≤ k
  pub same_start : (i : ℕ) → i < k → (j : ℕ) → get_or b i 0 ≤ j → j < get_or b i 0 + get_or z i 0 → get_or b j 0 ≡ get_or b i 0
  pub same_size : (i : ℕ) → i < k → (j : ℕ) → get_or b i 0 ≤ j → j < get_or b i 0 + get_or z i 0 → get_or z j 0 ≡ get_or z i 0

-- MESSAGE ORDER at index i: no serial is below that of its face's start, and the start of a face is above the start before it
abbrev pub floor_at : List ℕ → List ℕ → ℕ → ℕ
floor_at x b i = cond (eqb i 0) 0 (suc (get_or x (get_or b (i - 1) 0) 0))

abbrev pub order_at : List ℕ → List ℕ → ℕ → Bool
order_at x b i = leb (get_or x (get_or b i 0) 0) (get_or x i 0) && (not (eqb (get_or b i 0) i) || leb (floor_at x b i) (get_or x i 0))

-- PAIRS of vertices as one number each; of the darts by index, and reversed
abbrev pub pair_code : ℕ → ℕ → ℕ
pair_code a c = a * 1024 + c

abbrev pub pair_at : List ℕ → List ℕ → List ℕ → ℕ → ℕ
pair_at v b z i = pair_code (get_or v i 0) (get_or v (next_index b z i) 0)

abbrev pub reverse_at : List ℕ → List ℕ → List ℕ → ℕ → ℕ
reverse_at v b z i = pair_code (get_or v (next_index b z i) 0) (get_or v i 0)

-- the same as one number for a pair and its reverse, but for the last bit: the lesser end first, and 1 where that turned it round
abbrev pub edge_code : ℕ → ℕ → ℕ
edge_code a c = cond (ltb c a) ((c * 1024 + a) * 2 + 1) ((a * 1024 + c) * 2)

abbrev pub edge_at : List ℕ → List ℕ → List ℕ → ℕ → ℕ
edge_at v b z i = edge_code (get_or v i 0) (get_or v (next_index b z i) 0)

-- both ends of a dart differ
abbrev pub ends_differ : List ℕ → List ℕ → List ℕ → ℕ → Bool
ends_differ v b z i = not (eqb (get_or v i 0) (get_or v (next_index b z i) 0))

-- vertices are numbered below the count of darts
abbrev pub VerticesSmall : List ℕ → ℕ → Type 0
VerticesSmall v k = (i : ℕ) → i < k → get_or v i 0 ≤ message_darts
