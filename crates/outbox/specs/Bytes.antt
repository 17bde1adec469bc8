-- The bytes of each entry of a transfer, by the arrays of a volume: `order` has its darts as places in message order, `starts` the
-- index of each face's start. And what the functions that put them ask of the arrays. Assumes nothing.
use Rattle.std.specs.Prelude.{Bool, cond, List, [], ◌++◌, ℕ, ◌+◌, ◌-◌, ◌/◌, ◌≤◌, ◌<◌, ltb, length, get_or}
use Rattle.model.specs.Values.{serial_bound, room, message_darts}
use Rattle.model.specs.Layouts.{group}
use Rattle.model.specs.Messages.{point, label, face_dart, part2, part3}
use Rattle.model.specs.Image.{words_for, column, dart_in}
use Rattle.memory.specs.Point.{FiniteAt}
use Rattle.cells.specs.Places.{sewn_out}
use Rattle.departure.specs.ByPlaces.{critical_with, critical_beside, label_at, dart_entry}
use Rattle.outbox.specs.Runs.{run, tally}

-- THE ENTRIES
-- the point of vertex k
unfoldable pub point_put : List ℕ → List ℕ → ℕ → List ℕ
point_put m firsts k = point.put (dart_in m (get_or firsts k 0)).point

-- dart k of the face that starts at index s: its vertex and serial; its label
unfoldable pub dart_put : List ℕ → List ℕ → List ℕ → ℕ → ℕ → List ℕ
dart_put m numbers order s k = face_dart.put (dart_entry m numbers (get_or order (s + k) 0))

unfoldable pub label_put : List ℕ → List ℕ → ℕ → ℕ → List ℕ
label_put m order s k = label.put (label_at m (get_or order (s + k) 0))

-- the index after face f, and its size
abbrev pub end_of : List ℕ → ℕ → ℕ → ℕ → ℕ
end_of starts count darts f = cond (ltb (f + 1) count) (get_or starts (f + 1) 0) darts

abbrev pub size_of_face : List ℕ → ℕ → ℕ → ℕ → ℕ
size_of_face starts count darts f = end_of starts count darts f - get_or starts f 0

-- the place of its start
abbrev pub start_at : List ℕ → List ℕ → ℕ → ℕ
start_at order starts f = get_or order (get_or starts f 0) 0

-- a face of n darts that starts at index s
unfoldable pub face_put : List ℕ → List ℕ → List ℕ → ℕ → ℕ → List ℕ
face_put m numbers order s n = group.put n ++ run (dart_put m numbers order s) n

-- face f
unfoldable pub faces_put : List ℕ → List ℕ → List ℕ → List ℕ → ℕ → ℕ → ℕ → List ℕ
faces_put m numbers order starts darts count f = face_put m numbers order (get_or starts f 0) (size_of_face starts count darts f)

-- what face f adds to part 2
abbrev pub in_part2 : List ℕ → ℕ → List ℕ → List ℕ → ℕ → Bool
in_part2 m j order starts f = critical_with m j (start_at order starts f)

unfoldable pub part2_put : List ℕ → ℕ → List ℕ → List ℕ → ℕ → List ℕ
part2_put m j order starts f = cond (in_part2 m j order starts f) (part2.put (record { label = label_at m (start_at order starts f); index = get_or starts f 0 })) []

-- to part 3; c is the first number
abbrev pub in_part3 : List ℕ → List ℕ → List ℕ → List ℕ → ℕ → Bool
in_part3 m marks order starts f = sewn_out m marks (start_at order starts f)

unfoldable pub part3_put : List ℕ → List ℕ → ℕ → List ℕ → List ℕ → ℕ → List ℕ
part3_put m marks c order starts f = cond (in_part3 m marks order starts f) (part3.put (record { number = c + tally (in_part3 m marks order starts) f; index = get_or starts f 0 })) []

-- to part 4
abbrev pub in_part4 : List ℕ → ℕ → List ℕ → List ℕ → ℕ → Bool
in_part4 m j order starts f = critical_beside m j (start_at order starts f)

-- a face of n darts that starts at index s: index, other block, labels
unfoldable pub beside_put : List ℕ → List ℕ → ℕ → ℕ → List ℕ
beside_put m order s n = (group.put s ++ group.put (column m 3 (get_or order s 0) / 4)) ++ run (label_put m order s) n

unfoldable pub part4_put : List ℕ → ℕ → List ℕ → List ℕ → ℕ → ℕ → ℕ → List ℕ
part4_put m j order starts darts count f = cond (in_part4 m j order starts f) (beside_put m order (get_or starts f 0) (size_of_face starts count darts f)) []

-- WHAT IS ASKED OF THE ARRAYS
-- the darts of the volume are places of the block
pub record DartsListed (m order : List ℕ) (darts : ℕ) : Type 0 where
  pub header : 8 ≤ length m
  pub held : (k : ℕ) → k < darts → words_for (get_or order k 0 + 1) ≤ length m
  pub order_size : darts ≤ length order
  pub few : darts ≤ message_darts
  pub below : (k : ℕ) → k < darts → get_or order k 0 < room
  pub serial_small : (k : ℕ) → k < darts → column m 0 (get_or order k 0) < serial_bound
  pub other_small : (k : ℕ) → k < darts → column m 3 (get_or order k 0) < 64

-- their vertices have numbers
pub record Vertexed (numbers order : List ℕ) (darts : ℕ) : Type 0 where
  pub numbers_size : (k : ℕ) → k < darts → get_or order k 0 < length numbers
  pub number_small : (k : ℕ) → k < darts → get_or numbers (get_or order k 0) 0 < room

-- faces start and end within the order
pub record FacesStarted (starts : List ℕ) (darts count : ℕ) : Type 0 where
  pub starts_size : count ≤ length starts
  pub few : count ≤ message_darts
  pub below : (f : ℕ) → f < count → get_or starts f 0 < darts
  pub ends_after : (f : ℕ) → f < count → get_or starts f 0 < end_of starts count darts f
  pub ends_within : (f : ℕ) → f < count → end_of starts count darts f ≤ darts

-- the starts alone, as indices of a message and as places below n
pub record Opened (n : ℕ) (order starts : List ℕ) (count : ℕ) : Type 0 where
  pub order_size : (f : ℕ) → f < count → get_or starts f 0 < length order
  pub starts_size : count ≤ length starts
  pub few : count ≤ message_darts
  pub index_small : (f : ℕ) → f < count → get_or starts f 0 < message_darts
  pub place_below : (f : ℕ) → f < count → start_at order starts f < n

-- the first darts of the vertices have finite points
pub record Pointed (m firsts : List ℕ) (count : ℕ) : Type 0 where
  pub held : (k : ℕ) → k < count → words_for (get_or firsts k 0 + 1) ≤ length m
  pub firsts_size : count ≤ length firsts
  pub few : count ≤ message_darts
  pub below : (k : ℕ) → k < count → get_or firsts k 0 < room
  pub finite : (k : ℕ) → k < count → FiniteAt m (get_or firsts k 0)
