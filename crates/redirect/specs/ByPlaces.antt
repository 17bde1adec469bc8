-- The faces that an update names, by places: the least label of a dart's face, and the darts whose kind words change.
-- Assumes nothing.
use Rattle.std.specs.Prelude.{◌≡◌, ◌≢◌, Bool, true, cond, ◌&&◌, List, map, ℕ, ◌≤◌, ◌<◌, ltb, eqb, length, get_or, take}
use Rattle.laws.specs.Order.{Ascending}
use Rattle.model.specs.Lists.{all, any, mem, distinct, least, tab, index_of}
use Rattle.model.specs.Values.{Label, code, room}
use Rattle.model.specs.Cells.{cycle}
use Rattle.model.specs.Image.{column}
use Rattle.model.specs.Layouts.{times}
use Rattle.model.specs.Messages.{label}
use Rattle.columns.specs.Columns.{all_below}
use Rattle.departure.specs.ByPlaces.{critical_with}
use Rattle.codec.specs.Taken.{Took}

-- FACES
-- the code of the least label of the face of the dart at place q
unfoldable pub face_code : List ℕ → ℕ → ℕ
face_code m q = least (map (column m 4) (cycle (column m 1) q))

-- a face critical with block `from` has the least label c
abbrev pub names_at : List ℕ → ℕ → ℕ → Bool
names_at m from c = any (λ q. critical_with m from q && eqb (face_code m q) c) (tab (λ q. q) (get_or m 2 0))

-- the dart at place q lies on a face critical with block `from` whose least label is one of these
abbrev pub named_at : List ℕ → ℕ → List ℕ → ℕ → Bool
named_at m from codes q = critical_with m from q && mem (face_code m q) codes

-- LABELS
-- the codes of the labels that stand from a place on
pub record CodesRead (s : List ℕ) (at count : ℕ) (codes : List ℕ) : Type 0 where
  pub codes_are : (ls : List Label) (past : ℕ) → Took (times count label) s at ls past → take count codes ≡ map code ls

-- the first c codes ascend, to be searched
pub record Ready (codes : List ℕ) (c : ℕ) : Type 0 where
  pub few : c ≤ room
  pub size : c ≤ length codes
  pub ascends : Ascending c (λ k. get_or codes k 0)

-- the index of the code of the face of the dart at place p, where that face is critical with block `from`; 4,097 elsewhere
unfoldable pub code_index : List ℕ → ℕ → List ℕ → ℕ → ℕ → ℕ
code_index m from codes c p = cond (critical_with m from p) (index_of (face_code m p) (tab (λ k. get_or codes k 0) c)) 4097

-- a table in which no place below n has an index yet
abbrev pub Unset : ℕ → List ℕ → Type 0
Unset n table = (q : ℕ) → q < n → get_or table q 0 ≡ 4097

-- a table of these, by place
pub record LeastIndexed (index : ℕ → ℕ) (n : ℕ) (table : List ℕ) : Type 0 where
  pub index_is : (q : ℕ) → q < n → get_or table q 0 ≡ index q

-- the indices of the faces that have one, at the places below n, are marked, and no other
pub record HitsAre (index : ℕ → ℕ) (n : ℕ) (hits : List ℕ) : Type 0 where
  pub only : (k : ℕ) → get_or hits k 0 ≡ 1 → (p : ℕ) × (p < n) × (index p ≡ k)
  pub marked : (p : ℕ) → p < n → index p < 4097 → get_or hits (index p) 0 ≡ 1

-- the first c are marked
abbrev pub all_hit : List ℕ → ℕ → Bool
all_hit hits c = all_below (λ k. eqb (get_or hits k 0) 1) c

-- each of the first c codes names a face; the table has the index of each dart's code
pub record EachNamed (m : List ℕ) (from : ℕ) (codes : List ℕ) (c : ℕ) (table : List ℕ) (r : Bool) : Type 0 where
  pub said : r ≡ all (names_at m from) (take c codes)
  pub indexed : LeastIndexed (code_index m from codes c) (get_or m 2 0) table

-- labels that differ and each name a face; the table tells the darts of these faces
pub record AllNamed (m s : List ℕ) (from at count : ℕ) (table : List ℕ) (r : Bool) : Type 0 where
  pub said : (ls : List Label) (past : ℕ) → Took (times count label) s at ls past → r ≡ (all (names_at m from) (map code ls) && distinct (map code ls))
  pub tells : r ≡ true → (ls : List Label) (past : ℕ) → Took (times count label) s at ls past → (p : ℕ) → p < get_or m 2 0 → ltb (get_or table p 0) count ≡ named_at m from (map code ls) p

-- MEMORY whose darts that pass a test, of the first n, have another kind word
pub record Rewritten (m m' : List ℕ) (test : ℕ → Bool) (word n : ℕ) : Type 0 where
  pub size : length m' ≡ length m
  pub head : (i : ℕ) → i < 8 → get_or m' i 0 ≡ get_or m i 0
  pub others : (f p : ℕ) → f < 8 → f ≢ 3 → column m' f p ≡ column m f p
  pub kinds : (p : ℕ) → column m' 3 p ≡ cond (ltb p n && test p) word (column m 3 p)
