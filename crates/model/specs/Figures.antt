-- The paper's starred figures, computed from the definitions of the calls: one block and two rounds. The crate figures adds balancing and
-- has the theorem about the whole table. Assumes nothing.
use Rattle.std.specs.Prelude.{◌≡◌, refl, Bool, true, List, [], ◌∷◌, ◌++◌, map, reverse, ℕ, ◌+◌, length, get_or, take, replicate}
use Rattle.model.specs.Lists.{all, same_list}
use Rattle.model.specs.Values.{Third, free, sewn, critical, Dart, no_point, Block, rack, limits_in}
use Rattle.model.specs.Cells.{third_at}
use Rattle.model.specs.Image.{words, image, block_in}
use Rattle.model.specs.Layouts.{group, group_count, framed}
use Rattle.model.specs.Messages.{update}
use Rattle.model.specs.Calls.{Answer, number_of, values_of, written_values, empty, read_file, save_file, send, receive}
use Rattle.model.specs.Runs.{Request, Outcome, refused_by, finished, unfinished}
use Rattle.model.specs.DividedRun.{Round, round, last_steps, sent_messages}
use Rattle.model.specs.Everything.{everything}

-- THE CELLS
unfoldable pub dart : ℕ → ℕ → ℕ → Third → Dart
dart s n o t = record { serial = s; next = n; opposite = o; third = t; point = no_point }

-- "P has darts 1 to 6: next 1 2 3 and 4 5 6 as cycles, opposites 1-6, 2-5, 3-4, all free"; k is added to each serial
unfoldable pub pillow : ℕ → List Dart
unfolding dart
pillow k = dart (k + 1) (k + 2) (k + 6) free ∷ dart (k + 2) (k + 3) (k + 5) free ∷ dart (k + 3) (k + 1) (k + 4) free
    ∷ dart (k + 4) (k + 5) (k + 3) free ∷ dart (k + 5) (k + 6) (k + 2) free ∷ dart (k + 6) (k + 4) (k + 1) free ∷ []

unfoldable pub block : ℕ → List Dart → Block
block n ds = record { number = n; counter = 0; darts = ds }

p : List ℕ
unfolding pillow block everything
p = image words (block 0 (pillow 0))

tetrahedron : List ℕ
unfolding dart block everything
tetrahedron = image words (block 0 (dart 1 2 4 free ∷ dart 2 3 7 free ∷ dart 3 1 10 free
    ∷ dart 4 5 1 free ∷ dart 5 6 12 free ∷ dart 6 4 8 free
    ∷ dart 7 8 2 free ∷ dart 8 9 6 free ∷ dart 9 7 11 free
    ∷ dart 10 11 3 free ∷ dart 11 12 9 free ∷ dart 12 10 5 free ∷ []))

-- "Sew 1-12, 2-11, 3-10"
unfoldable pub sewn_pillows : List Dart
unfolding dart
sewn_pillows = dart 1 2 6 (sewn 12) ∷ dart 2 3 5 (sewn 11) ∷ dart 3 1 4 (sewn 10) ∷ dart 4 5 3 free ∷ dart 5 6 2 free ∷ dart 6 4 1 free
    ∷ dart 7 8 12 free ∷ dart 8 9 11 free ∷ dart 9 7 10 free ∷ dart 10 11 9 (sewn 3) ∷ dart 11 12 8 (sewn 2) ∷ dart 12 10 7 (sewn 1) ∷ []

-- "block 0, counter 0", and an empty block 1
pq : List (List ℕ)
unfolding sewn_pillows block everything
pq = image words (block 0 sewn_pillows) ∷ (empty rack 1 (replicate words 7)).lent ∷ []

-- ROUNDS
unfoldable pub outbox : List ℕ
outbox = replicate 200 165

-- a round whose last steps run backwards, in a mesh with these viewers
unfoldable pub played : ℕ → List (List ℕ) → Request → Round
unfolding outbox everything
played viewers ms r = let lims = limits_in viewers in round lims ms r outbox (reverse (last_steps r (sent_messages lims ms r outbox)))

unfoldable pub request : ℕ → ℕ → ℕ → Request
request i j s = record { from = i; to = j; serial = s }

p_sent : Round
unfolding pq played request everything
p_sent = played 0 pq (request 0 1 1)

q_sent : Round
unfolding p_sent played request everything
q_sent = played 0 p_sent.memories (request 0 1 7)

-- AS NUMBERS
unfoldable pub outcome_numbers : Outcome → List ℕ
outcome_numbers finished = 0 ∷ []
outcome_numbers unfinished = 1 ∷ []
outcome_numbers (refused_by n) = 2 ∷ n ∷ []

-- kind; sewn to; or other block and label
third_numbers : Third → List ℕ
third_numbers free = 0 ∷ []
third_numbers (sewn y) = 1 ∷ y ∷ []
third_numbers (critical o l) = 2 ∷ o ∷ l.maker ∷ l.number ∷ l.position ∷ []

third_in_block : Round → ℕ → ℕ → List ℕ
unfolding third_numbers everything
third_in_block r b x = third_numbers (third_at (block_in (get_or r.memories b [])).darts x)

answer_numbers : Answer ℕ → List ℕ
answer_numbers a = number_of a ∷ values_of written_values a

-- THE TABLE: what is computed, and what the paper says
pub one_block : List (List ℕ × List ℕ)
unfolding p tetrahedron outbox answer_numbers everything
one_block =
    -- "P's file is 171 bytes; its transfer 95, a free tetrahedron's 134, beginning hexadecimal 84 01"
    (answer_numbers (save_file rack p outbox).answer, 0 ∷ 171 ∷ [])
    ∷ (answer_numbers (send rack p 1 1 outbox).answer, 0 ∷ 95 ∷ [])
    ∷ (answer_numbers (send rack tetrahedron 1 1 outbox).answer ++ take 2 (send rack tetrahedron 1 1 outbox).lent, 0 ∷ 134 ∷ 0x84 ∷ 0x01 ∷ [])
    -- "Update from 0 to 2, new block 1, label 0.5.0"
    ∷ (
      framed update (record { from = 0; to = 2; block = 1; labels = record { maker = 0; number = 5; position = 0 } ∷ [] }),
      0x08 ∷ 0x02 ∷ 0x00 ∷ 0x02 ∷ 0x01 ∷ 0x01 ∷ 0x00 ∷ 0x05 ∷ 0x00 ∷ [],
    )
    -- "127 takes one group, 128 two; 80 00 is refused", as a file and as a message
    ∷ (length (group.put 127) ∷ group_count 127 ∷ length (group.put 128) ∷ group_count 128 ∷ [], 1 ∷ 1 ∷ 2 ∷ 2 ∷ [])
    ∷ (number_of (read_file rack (0x80 ∷ 0x00 ∷ []) p).answer ∷ number_of (receive rack p (0x80 ∷ 0x00 ∷ [])).answer ∷ [], 3 ∷ 16 ∷ [])
    ∷ []

pub two_rounds : List (List ℕ × List ℕ)
unfolding pq outbox request p_sent q_sent outcome_numbers third_in_block everything
two_rounds =
    -- "P to block 1: 97 bytes; label 0.0.0 on 1 and 12, 0.0.2 on 3 and 10; counter 1"
    (outcome_numbers p_sent.outcome ++ map length (sent_messages (limits_in 0) pq (request 0 1 1) outbox), 0 ∷ 97 ∷ [])
    ∷ (third_in_block p_sent 1 1 ++ third_in_block p_sent 0 12, 2 ∷ 0 ∷ 0 ∷ 0 ∷ 0 ∷ 2 ∷ 1 ∷ 0 ∷ 0 ∷ 0 ∷ [])
    ∷ (third_in_block p_sent 1 3 ++ third_in_block p_sent 0 10, 2 ∷ 0 ∷ 0 ∷ 0 ∷ 2 ∷ 2 ∷ 1 ∷ 0 ∷ 0 ∷ 2 ∷ [])
    ∷ ((block_in (get_or p_sent.memories 0 [])).counter ∷ [], 1 ∷ [])
    -- "Then Q: 99 bytes; block 0 empty; 1-12 sewn"
    ∷ (outcome_numbers q_sent.outcome ++ map length (sent_messages (limits_in 0) p_sent.memories (request 0 1 7) outbox), 0 ∷ 99 ∷ [])
    ∷ (length (block_in (get_or q_sent.memories 0 [])).darts ∷ third_in_block q_sent 1 1 ++ third_in_block q_sent 1 12, 0 ∷ 1 ∷ 12 ∷ 1 ∷ 1 ∷ [])
    ∷ []

abbrev pub right : List ℕ × List ℕ → Bool
right c = same_list c.0 c.1

pub one_block_right : all right one_block ≡ true
unfolding one_block everything
one_block_right = refl

pub two_rounds_right : all right two_rounds ≡ true
unfolding two_rounds everything
two_rounds_right = refl
