-- The rows of a block's cells by place: what stands in them at first, and what is counted into them. Assumes nothing.
use Rattle.std.specs.Prelude.{◌≡◌, true, cond, List, map, ℕ, ◌+◌, ◌*◌, ◌-◌, ◌/◌, ◌%◌, ◌≤◌, ◌<◌, eqb, length, get_or}
use Rattle.model.specs.Lists.{keep, tab}
use Rattle.model.specs.Cells.{faces, start_of}
use Rattle.model.specs.Image.{column, other_in}
use Rattle.model.specs.Values.{room}
use Rattle.stats.specs.BlockCounts.{critical_at}

-- before anything is counted: a cell's least serial at the start of its row, 0 elsewhere
abbrev pub head_word : List ℕ → List ℕ → ℕ → ℕ
head_word m firsts i = cond (eqb (i % 19) 0) (column m 0 (get_or firsts (i / 19) 0)) 0

-- the first words are so, and the others what they were
pub record CountHeaded (m firsts : List ℕ) (end : ℕ) (T T' : List ℕ) : Type 0 where
  pub len : length T' ≡ length T
  pub head : (i : ℕ) → i < end → get_or T' i 0 ≡ head_word m firsts i
  pub rest : (i : ℕ) → end ≤ i → get_or T' i 0 ≡ get_or T i 0

-- where word j of the row of the cell of place p stands; cells have numbers from 1 on
abbrev pub cell_word : List ℕ → ℕ → ℕ → ℕ
cell_word G j p = 19 * (get_or G p 0 - 1) + j

-- the word for the block that the dart at place p is critical with
abbrev pub critical_word : List ℕ → List ℕ → ℕ → ℕ
critical_word m G p = cell_word G (3 + other_in (column m 3 p)) p

-- the rows of all cells are there, with numbers of at most `most` in them
pub record Countable (most : ℕ) (m G T : List ℕ) : Type 0 where
  pub len : get_or m 2 0 ≤ length G
  pub within : (q : ℕ) → q < get_or m 2 0 → (0 < get_or G q 0) × (get_or G q 0 ≤ room) × (19 * get_or G q 0 ≤ length T)
  pub small : (q j : ℕ) → q < get_or m 2 0 → j < 19 → get_or T (cell_word G j q) 0 ≤ most

-- each element of a list counts one at its index
pub record CountTold (index : ℕ → ℕ) (l T T' : List ℕ) : Type 0 where
  pub len : length T' ≡ length T
  pub value : (i : ℕ) → get_or T' i 0 ≡ get_or T i 0 + length (keep (λ x. eqb (index x) i) l)

-- the least place of each face, ascending
abbrev pub face_starts : List ℕ → List ℕ
face_starts m = map start_of (faces (column m 1) (tab (λ p. p) (get_or m 2 0)))

-- these places in arrays: out has faces one after the other, starts where each starts
pub record CountStarted (m out starts : List ℕ) (count : ℕ) : Type 0 where
  pub starts_there : count ≤ length starts
  pub few : count ≤ room
  pub count_is : count ≡ length (face_starts m)
  pub index_below : (k : ℕ) → k < count → get_or starts k 0 < room
  pub index_there : (k : ℕ) → k < count → get_or starts k 0 < length out
  pub start_is : (k : ℕ) → k < count → get_or out (get_or starts k 0) 0 ≡ get_or (face_starts m) k 0
  pub start_below : (k : ℕ) → k < count → get_or (face_starts m) k 0 < get_or m 2 0

-- every face counts in its cell's row, and a critical one for the block that it is critical with
pub record FacesCounted (m G T T' : List ℕ) : Type 0 where
  pub len : length T' ≡ length T
  pub value : (i : ℕ) → get_or T' i 0
      ≡ get_or T i 0 + length (keep (λ x. eqb (cell_word G 2 x) i) (face_starts m))
      + length (keep (λ x. eqb (critical_word m G x) i) (keep (critical_at m) (face_starts m)))

-- critical darts name blocks from 0 to 15
abbrev pub Bordering : List ℕ → Type 0
Bordering m = (p : ℕ) → p < get_or m 2 0 → critical_at m p ≡ true → other_in (column m 3 p) < 16
