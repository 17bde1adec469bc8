-- The updates of a volume by its arrays, block by block: `order` has its darts as places in message order, `starts` the index of each
-- face's start. And what the functions that count and put them ask of the arrays. Assumes nothing.
use Rattle.std.specs.Prelude.{◌≡◌, Bool, cond, not, ◌&&◌, List, [], ◌++◌, ℕ, zero, suc, ◌+◌, ◌<◌, ◌^◌, ltb, eqb, length, get_or}
use Rattle.model.specs.Values.{blocks}
use Rattle.model.specs.Lists.{least, tab}
use Rattle.model.specs.Layouts.{group}
use Rattle.model.specs.Messages.{label}
use Rattle.model.specs.Image.{column, label_in}
use Rattle.outbox.specs.Runs.{run, tally}
use Rattle.outbox.specs.Bytes.{in_part2, size_of_face}

-- LABELS
-- the least label, as a code, of a face of n darts that starts at index s
unfoldable pub least_code : List ℕ → List ℕ → ℕ → ℕ → ℕ
least_code m order s n = least (tab (λ t. column m 4 (get_or order (s + t) 0)) n)

-- what face f adds to the labels for block k: its least label, if k shares it
unfoldable pub least_put : List ℕ → ℕ → List ℕ → List ℕ → ℕ → ℕ → ℕ → List ℕ
least_put m k order starts darts count f =
    cond (in_part2 m k order starts f) (label.put (label_in (least_code m order (get_or starts f 0) (size_of_face starts count darts f)))) []

-- MESSAGES
-- a volume goes to block j; block k, which shares n of its faces, is told
abbrev pub relative : ℕ → ℕ → ℕ → Bool
relative j k n = ltb 0 n && not (eqb k j)

-- what stands before the labels: the length r of the rest, kind, blocks and count
unfoldable pub head_bytes : List ℕ → ℕ → ℕ → ℕ → ℕ → List ℕ
head_bytes m j k n r = group.put r ++ (group.put 2 ++ (group.put (get_or m 0 0) ++ (group.put k ++ (group.put j ++ group.put n))))

-- how long the rest is where n labels take b bytes
unfoldable pub rest_for : ℕ → ℕ → ℕ
rest_for n b = 4 + length (group.put n) + b

-- the message for block k
unfoldable pub update_bytes : List ℕ → ℕ → List ℕ → List ℕ → ℕ → ℕ → ℕ → List ℕ
update_bytes m j order starts darts count k =
    let n = tally (in_part2 m k order starts) count in
    let labels = run (least_put m k order starts darts count) count in
    head_bytes m j k n (rest_for n (length labels)) ++ labels

-- what is put for block k: nothing if it is not told
unfoldable pub told_put : List ℕ → ℕ → List ℕ → List ℕ → ℕ → ℕ → ℕ → List ℕ
told_put m j order starts darts count k =
    cond (relative j k (tally (in_part2 m k order starts) count)) (update_bytes m j order starts darts count k) []

-- SIZES
-- of the message for block k, whose n labels take b bytes
unfoldable pub size_for : ℕ → ℕ → ℕ → ℕ → ℕ
size_for j k n b = cond (relative j k n) (length (group.put (rest_for n b)) + rest_for n b) 0

-- of the messages for the blocks 0, 1, .., c of them
unfoldable pub sizes_for : ℕ → List ℕ → List ℕ → ℕ → ℕ
sizes_for j labels bytes zero = 0
sizes_for j labels bytes (suc c) = sizes_for j labels bytes c + size_for j c (get_or labels c 0) (get_or bytes c 0)

-- the labels of the faces before f are counted: how many there are for each block, and how many bytes they take
pub record Shares (m order starts : List ℕ) (darts count f : ℕ) (labels bytes : List ℕ) : Type 0 where
  pub labels_size : length labels ≡ blocks
  pub bytes_size : length bytes ≡ blocks
  pub labels_are : (k : ℕ) → k < blocks → get_or labels k 0 ≡ tally (in_part2 m k order starts) f
  pub bytes_are : (k : ℕ) → k < blocks → get_or bytes k 0 ≡ length (run (least_put m k order starts darts count) f)

-- and are few
pub record Few (labels bytes : List ℕ) : Type 0 where
  pub labels_size : length labels ≡ blocks
  pub bytes_size : length bytes ≡ blocks
  pub labels_few : (k : ℕ) → k < blocks → get_or labels k 0 < 2 ^ 16
  pub bytes_few : (k : ℕ) → k < blocks → get_or bytes k 0 < 2 ^ 16
