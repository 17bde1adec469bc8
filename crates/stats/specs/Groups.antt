-- The darts of a block in groups, by place: its cells, or its pieces where third links count. Assumes nothing.
use Rattle.std.specs.Prelude.{◌≡◌, Bool, true, cond, ◌&&◌, List, [], ◌∷◌, ◌≢◌, ℕ, suc, ◌+◌, ◌≤◌, ◌<◌, leb, eqb, length, get_or, set, take}
use Rattle.model.specs.Lists.{all, keep, mem, tab}
use Rattle.model.specs.Image.{column, is_sewn_word}
use Rattle.cells.specs.Places.{Linked, places_in}
use Rattle.stats.specs.Pieces.{piece}

-- the third link of the dart at place p, if third links count and the dart is sewn; else p
abbrev pub third_link : Bool → List ℕ → ℕ → ℕ
third_link third m p = cond (third && is_sewn_word (column m 3 p)) (column m 4 p) p

abbrev pub links_at : Bool → List ℕ → ℕ → List ℕ
links_at third m p = column m 1 p ∷ column m 2 p ∷ third_link third m p ∷ []

-- the places of the group of the dart at place p
abbrev pub group_of : Bool → List ℕ → ℕ → List ℕ
group_of third m p = piece (links_at third m) p

-- p is the least place of its group
unfoldable pub is_first : Bool → List ℕ → ℕ → Bool
is_first third m p = all (leb p) (places_in (get_or m 2 0) (group_of third m p))

-- the least places of the groups, of those among the first p
abbrev pub firsts_below : Bool → List ℕ → ℕ → List ℕ
firsts_below third m p = keep (is_first third m) (tab (λ q. q) p)

-- a block's memory in which a sewn dart is sewn to one that is sewn to it
pub record Joined (m : List ℕ) : Type 0 where
  pub linked : Linked m (get_or m 2 0)
  pub sewn_back : (p : ℕ) → p < get_or m 2 0 → is_sewn_word (column m 3 p) ≡ true
      → (is_sewn_word (column m 3 (column m 4 p)) ≡ true) × (column m 4 (column m 4 p) ≡ p)

-- THE GROUPS in a table: 0 where a place is in none yet
-- p enters group g, unless it is in one: it is put at the end of the queue, of length t
pub record GroupEntered (p g : ℕ) (G o : List ℕ) (t : ℕ) (G' o' : List ℕ) (t' : ℕ) : Type 0 where
  pub groups : G' ≡ cond (eqb (get_or G p 0) 0) (set G p g) G
  pub order : o' ≡ cond (eqb (get_or G p 0) 0) (set o t p) o
  pub tail : t' ≡ cond (eqb (get_or G p 0) 0) (t + 1) t

-- what is in a group stands in the queue, once, and lies below n
pub record Queued (n : ℕ) (G o : List ℕ) (t : ℕ) : Type 0 where
  pub len_g : n ≤ length G
  pub len_o : n ≤ length o
  pub below : (k : ℕ) → k < t → get_or o k 0 < n
  pub named : (k : ℕ) → k < t → 0 < get_or G (get_or o k 0) 0
  pub once : (a b : ℕ) → a < b → b < t → get_or o a 0 ≢ get_or o b 0
  pub back : (p : ℕ) → 0 < get_or G p 0 → (k : ℕ) × (k < t) × (get_or o k 0 ≡ p)

-- the links of the dart at place p are in groups, those that were in none in group g and at the end of the queue
pub record LinksEntered (third : Bool) (m : List ℕ) (p g : ℕ) (G o : List ℕ) (t : ℕ) (G' o' : List ℕ) (t' : ℕ) : Type 0 where
  pub queue : Queued (get_or m 2 0) G' o' t'
  pub keeps : (x : ℕ) → 0 < get_or G x 0 → get_or G' x 0 ≡ get_or G x 0
  pub kept : (k : ℕ) → k < t → get_or o' k 0 ≡ get_or o k 0
  pub longer : t ≤ t'
  pub new : (k : ℕ) → t ≤ k → k < t' → (get_or G' (get_or o' k 0) 0 ≡ g) × (mem (get_or o' k 0) (links_at third m p) ≡ true)
  pub entered : (z : ℕ) → mem z (links_at third m p) ≡ true → 0 < get_or G' z 0

-- links of what is in a group lead to what is in a group
abbrev pub Shut : Bool → List ℕ → List ℕ → Type 0
Shut third m G = (x z : ℕ) → 0 < get_or G x 0 → mem z (links_at third m x) ≡ true → 0 < get_or G z 0

-- each group has a number from 1 on, by its least place
pub record Grouped (third : Bool) (m G firsts : List ℕ) (count : ℕ) : Type 0 where
  pub len_g : get_or m 2 0 ≤ length G
  pub len_f : get_or m 2 0 ≤ length firsts
  pub count_is : count ≡ length (firsts_below third m (get_or m 2 0))
  pub firsts_are : take count firsts ≡ firsts_below third m (get_or m 2 0)
  pub within : (q : ℕ) → q < get_or m 2 0 → (0 < get_or G q 0) × (get_or G q 0 ≤ count)
  pub number : (j q : ℕ) → j < count → q < get_or m 2 0 → eqb (get_or G q 0) (suc j) ≡ mem q (group_of third m (get_or firsts j 0))
