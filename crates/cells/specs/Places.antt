-- The cells of a block by place: what its links ask, marks of a list of places, and the list in ascending place. Assumes nothing.
use Rattle.std.specs.Prelude.{◌≡◌, Bool, true, false, cond, not, ◌&&◌, List, ◌∷◌, ◌++◌, map, ℕ, ◌+◌, ◌%◌, ◌≤◌, ◌<◌, eqb, length, get_or, set, take}
use Rattle.model.specs.Lists.{all, keep, mem, distinct, tab, concat}
use Rattle.model.specs.Cells.{volume, ring, vertex, vertices, vertex_number}
use Rattle.model.specs.Image.{words_for, column, is_sewn_word}
use Rattle.model.specs.Values.{room}
use Rattle.model.specs.Links.{placed}
use Rattle.laws.specs.Order.{Ascending}

-- f takes the places below n to places below n
abbrev pub Within : ℕ → (ℕ → ℕ) → Type 0
Within n f = (p : ℕ) → p < n → f p < n

-- and no two of them to one
abbrev pub Apart : ℕ → (ℕ → ℕ) → Type 0
Apart n f = (p q : ℕ) → p < n → q < n → f p ≡ f q → p ≡ q

-- a block's memory whose first n records have their links within them; next and opposite are permutations
pub record Linked (b : List ℕ) (n : ℕ) : Type 0 where
  pub few : n ≤ room
  pub size : words_for n ≤ length b
  pub next_within : Within n (column b 1)
  pub next_apart : Apart n (column b 1)
  pub opposite_within : Within n (column b 2)
  pub opposite_apart : Apart n (column b 2)
  pub sewn_within : (p : ℕ) → p < n → column b 3 p % 4 ≡ 1 → column b 4 p < n

-- the places of the volume of the dart at place p
abbrev pub volume_of : List ℕ → ℕ → List ℕ
volume_of b p = volume (column b 1) (column b 2) p

abbrev pub bit : Bool → ℕ
bit true = 1
bit false = 0

-- all zero, whatever its length
abbrev pub Clear : List ℕ → Type 0
Clear t = (p : ℕ) → get_or t p 0 ≡ 0

-- marks of the places that are in a list: 1 there, 0 elsewhere
pub record Marked (v marks : List ℕ) : Type 0 where
  pub mark : (p : ℕ) → get_or marks p 0 ≡ bit (mem p v)

-- the marked places below n, ascending
unfoldable pub marked : ℕ → List ℕ → List ℕ
marked n marks = keep (λ p. eqb (get_or marks p 0) 1) (tab (λ p. p) n)

-- the dart at place p is sewn to a marked one; to one that is not marked
abbrev pub sewn_in : List ℕ → List ℕ → ℕ → Bool
sewn_in b marks p = is_sewn_word (column b 3 p) && eqb (get_or marks (column b 4 p) 0) 1

abbrev pub sewn_out : List ℕ → List ℕ → ℕ → Bool
sewn_out b marks p = is_sewn_word (column b 3 p) && not (eqb (get_or marks (column b 4 p) 0) 1)

-- the places below n that are in a list, ascending
unfoldable pub places_in : ℕ → List ℕ → List ℕ
places_in n v = keep (λ p. mem p v) (tab (λ p. p) n)

-- the first t places of o are below n and differ, and have every place of v among them
pub record Listed (n : ℕ) (v o : List ℕ) (t : ℕ) : Type 0 where
  pub size : n ≤ length o
  pub few : t ≤ n
  pub below : (k : ℕ) → k < t → get_or o k 0 < n
  pub once : distinct (take t o) ≡ true
  pub has : (p : ℕ) → mem p v ≡ true → mem p (take t o) ≡ true

-- the first t keys are places below n that ascend, and have every marked place below n among them
pub record InTurn (n : ℕ) (marks keys : List ℕ) (t : ℕ) : Type 0 where
  pub few : t ≤ n
  pub there : t ≤ length keys
  pub below : (k : ℕ) → k < t → get_or keys k 0 < n
  pub rises : Ascending t (λ k. get_or keys k 0)
  pub has : (p : ℕ) → p < n → get_or marks p 0 ≡ 1 → (k : ℕ) × (k < t) × (get_or keys k 0 ≡ p)

-- a visit of p: unless it was marked before, it is marked and put at the end of the queue, of length t
pub record Visited (p : ℕ) (m o : List ℕ) (t : ℕ) (m' o' : List ℕ) (t' : ℕ) : Type 0 where
  pub marks : m' ≡ cond (eqb (get_or m p 0) 0) (set m p 1) m
  pub order : o' ≡ cond (eqb (get_or m p 0) 0) (set o t p) o
  pub tail : t' ≡ cond (eqb (get_or m p 0) 0) (t + 1) t

-- a table in which the places of a list have the value c, and the others what they had
pub record Assigned (c : ℕ) (l t t' : List ℕ) : Type 0 where
  pub size : length t' ≡ length t
  pub value : (p : ℕ) → get_or t' p 0 ≡ cond (mem p l) c (get_or t p 0)

-- a list put into o from index i on; it ends before index e
pub record Put (l : List ℕ) (i : ℕ) (o o' : List ℕ) (e : ℕ) : Type 0 where
  pub size : length o' ≡ length o
  pub front : take e o' ≡ take i o ++ l
  pub end : e ≡ i + length l

-- faces one after the other in `out`, and the index of each one's start in `starts`
pub record InOrder (fs : List (List ℕ)) (out starts : List ℕ) (darts count : ℕ) : Type 0 where
  pub out_size : darts ≤ length out
  pub starts_size : count ≤ length starts
  pub order : take darts out ≡ concat fs
  pub darts_are : darts ≡ length (concat fs)
  pub indices : take count starts ≡ map (λ f. f.at) (placed 0 fs)
  pub count_is : count ≡ length fs

-- the marks are closed under a link of the places below n
abbrev pub Closed : ℕ → (ℕ → ℕ) → List ℕ → Type 0
Closed n f marks = (p : ℕ) → p < n → get_or marks p 0 ≡ 1 → get_or marks (f p) 0 ≡ 1

-- the vertices of some darts, numbered by first use: each dart's number, and for each number the first dart with that vertex
pub record Numbered (nx op : ℕ → ℕ) (l numbers firsts : List ℕ) (count : ℕ) : Type 0 where
  pub numbers_size : (p : ℕ) → mem p l ≡ true → p < length numbers
  pub firsts_size : count ≤ length firsts
  pub number : (p : ℕ) → mem p l ≡ true → get_or numbers p 0 ≡ vertex_number nx op l p
  pub count_is : count ≡ length (vertices nx op l)
  pub count_le : count ≤ length l
  pub firsts_are : map (vertex nx op) (take count firsts) ≡ vertices nx op l
  pub firsts_in : (k : ℕ) → k < count → mem (get_or firsts k 0) l ≡ true

-- places below n that two links lead to themselves, each once
pub record WholeCells (n : ℕ) (nx op : ℕ → ℕ) (l : List ℕ) : Type 0 where
  pub few : length l ≤ room
  pub once : distinct l ≡ true
  pub below : (p : ℕ) → mem p l ≡ true → p < n
  pub next_in : (p : ℕ) → mem p l ≡ true → mem (nx p) l ≡ true
  pub opposite_in : (p : ℕ) → mem p l ≡ true → mem (op p) l ≡ true

-- the vertices at which the edges of a vertex end, along the ring of one of its darts
abbrev pub ends_of : (ℕ → ℕ) → (ℕ → ℕ) → List ℕ → ℕ → List ℕ
ends_of nx op numbers x = map (λ q. get_or numbers (nx q) 0) (ring nx op x)

-- the edges of each vertex end at different vertices, none at itself
unfoldable pub ends_once : (ℕ → ℕ) → (ℕ → ℕ) → List ℕ → List ℕ → ℕ → Bool
ends_once nx op numbers firsts count = all (λ a. distinct (a ∷ ends_of nx op numbers (get_or firsts a 0))) (tab (λ a. a) count)

-- the first dart of each vertex is below n, and the ends of its edges have numbers
pub record Ended (n : ℕ) (nx op : ℕ → ℕ) (numbers firsts : List ℕ) (count : ℕ) : Type 0 where
  pub firsts_size : count ≤ length firsts
  pub count_few : count ≤ room
  pub first_below : (a : ℕ) → a < count → get_or firsts a 0 < n
  pub end_there : (a : ℕ) → a < count → (q : ℕ) → mem q (ring nx op (get_or firsts a 0)) ≡ true → nx q < length numbers
  pub end_below : (a : ℕ) → a < count → (q : ℕ) → mem q (ring nx op (get_or firsts a 0)) ≡ true → get_or numbers (nx q) 0 < count

-- of m entries, those that have a colour are those of a list; none is above it
pub record Coloured (m colour : ℕ) (l colours : List ℕ) : Type 0 where
  pub size : length colours ≡ m
  pub bound : (b : ℕ) → get_or colours b 0 ≤ colour
  pub give_colour_is : (b : ℕ) → b < m → eqb (get_or colours b 0) colour ≡ mem b l
