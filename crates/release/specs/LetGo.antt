-- The memory that release leaves, by places: the faces left behind labelled, the marked records taken out, the others renumbered.
-- Assumes nothing.
use Rattle.std.specs.Prelude.{not, List, [], ◌∷◌, ◌++◌, map, ℕ, ◌+◌, ◌*◌, ◌-◌, eqb, length, get_or, set, replicate}
use Rattle.model.specs.Lists.{keep, concat, tab}
use Rattle.model.specs.Cells.{start_of}
use Rattle.model.specs.Image.{words_for, kind_word, link_word, column}
use Rattle.model.specs.Links.{Link, label_faces}
use Rattle.memory.specs.Record.{record_in, record_words}
use Rattle.place.specs.Renumber.{renumbered}
use Rattle.cells.specs.Places.{sewn_out}
use Rattle.departure.specs.Asked.{faces_at}

-- THE FACES LEFT BEHIND
-- a new third link put on the dart at a place
abbrev pub with_link : List ℕ → Link → List ℕ
with_link m k = set (set m (8 + k.dart * 8 + 3) (kind_word k.third)) (8 + k.dart * 8 + 4) (link_word [] k.third)

-- one after the other
unfoldable pub with_links : List ℕ → List Link → List ℕ
with_links m [] = m
with_links m (k ∷ ks) = with_links (with_link m k) ks

-- the faces of the marked volume that are sewn to another volume
abbrev pub let_go : List ℕ → List ℕ → List (List ℕ)
let_go m marks = keep (λ f. sewn_out m marks (start_of f)) (faces_at m marks)

-- "the dart sewn to each takes the same label": the links of the darts left behind, when the volume goes to block j
unfoldable pub left_behind : List ℕ → List ℕ → ℕ → List Link
left_behind m marks j = label_faces (column m 4) j (get_or m 0 0) (get_or m 1 0) (let_go m marks)

-- THE RECORDS THAT STAY
-- the places below n that are not marked, ascending
unfoldable pub unmarked : ℕ → List ℕ → List ℕ
unmarked n marks = keep (λ p. not (eqb (get_or marks p 0) 1)) (tab (λ p. p) n)

-- how many places below p are not marked: where p goes
unfoldable pub rank : List ℕ → ℕ → ℕ
rank marks p = length (unmarked p marks)

-- the words of the dart at place p, with places moved by t
unfoldable pub moved_words : (ℕ → ℕ) → List ℕ → ℕ → List ℕ
moved_words t m p = record_words (renumbered t (record_in m p))

-- the records of the unmarked places below n, one after the other
unfoldable pub records : (ℕ → List ℕ) → List ℕ → ℕ → List ℕ
records g marks n = concat (map g (unmarked n marks))

-- memory without the marked records, with another counter
unfoldable pub without : List ℕ → List ℕ → ℕ → List ℕ
without m marks counter = (get_or m 0 0 ∷ counter ∷ rank marks (get_or m 2 0) ∷ 0 ∷ 0 ∷ 0 ∷ 0 ∷ 0 ∷ [])
    ++ (records (moved_words (rank marks) m) marks (get_or m 2 0) ++ replicate (length m - words_for (rank marks (get_or m 2 0))) 0)

-- THE MEMORY AFTERWARDS, when the marked volume goes to block j
unfoldable pub released_at : List ℕ → List ℕ → ℕ → List ℕ
released_at m marks j = without (with_links m (left_behind m marks j)) marks (get_or m 1 0 + length (let_go m marks))
