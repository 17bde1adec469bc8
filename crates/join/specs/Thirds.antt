-- The third links of new darts written into a block's memory that holds them, and those of the darts they are sewn to. Assumes nothing.
-- By index in the message: kinds, links (the place before of the dart that it is sewn to, or a label's code); ranks: the place in the
-- draft; old, new: the places now of the block's darts and of the draft's.
use Rattle.std.specs.Prelude.{◌≡◌, cond, List, ℕ, ◌+◌, ◌*◌, ◌≤◌, ◌<◌, eqb, length, get_or, set}
use Rattle.model.specs.Image.{column}
use Rattle.model.specs.Values.{room}

-- the place of the new dart with index i
abbrev pub place_of : List ℕ → List ℕ → ℕ → ℕ
place_of ranks new i = get_or new (get_or ranks i 0) 0

-- its link word
abbrev pub join_link : List ℕ → List ℕ → List ℕ → ℕ → ℕ
join_link kinds links old i = cond (eqb (get_or kinds i 0) 1) (get_or old (get_or links i 0) 0) (get_or links i 0)

-- both words of the dart at place p
abbrev pub joined_third : List ℕ → ℕ → ℕ → ℕ → List ℕ
joined_third m p kind link = set (set m (8 + p * 8 + 3) kind) (8 + p * 8 + 4) link

-- one new dart at place p: free, critical, or sewn to a dart of the block, and that one to it
unfoldable pub sewn_at : List ℕ → ℕ → ℕ → List ℕ → ℕ → List ℕ
sewn_at m kind link old p = cond (eqb kind 0) m (cond (eqb kind 1) (joined_third (joined_third m p 1 (get_or old link 0)) (get_or old link 0) 1 p) (joined_third m p kind link))

-- the places differ, and so do the darts that are sewn to
pub record JoinSewable (n k : ℕ) (kinds links ranks old new : List ℕ) : Type 0 where
  pub fits : n + k ≤ room
  pub rank_below : (i : ℕ) → i < k → get_or ranks i 0 < k
  pub new_below : (i : ℕ) → i < k → place_of ranks new i < n + k
  pub new_apart : (i j : ℕ) → i < k → j < k → place_of ranks new i ≡ place_of ranks new j → i ≡ j
  pub old_below : (q : ℕ) → q < n → get_or old q 0 < n + k
  pub old_apart : (p q : ℕ) → p < n → q < n → get_or old p 0 ≡ get_or old q 0 → p ≡ q
  pub both_apart : (i q : ℕ) → i < k → q < n → place_of ranks new i ≡ get_or old q 0 → ⊥
  pub link_below : (i : ℕ) → i < k → get_or kinds i 0 ≡ 1 → get_or links i 0 < n
  pub link_apart : (i j : ℕ) → i < k → j < k → get_or kinds i 0 ≡ 1 → get_or kinds j 0 ≡ 1 → get_or links i 0 ≡ get_or links j 0 → i ≡ j

-- the words of the first i new darts, and of what they are sewn to, are written; all else stays
pub record Sewn (w : List ℕ) (kinds links ranks old new : List ℕ) (i : ℕ) (m : List ℕ) : Type 0 where
  pub size : length m ≡ length w
  pub head : (j : ℕ) → j < 8 → get_or m j 0 ≡ get_or w j 0
  pub others : (f p : ℕ) → f < 8 → (f ≡ 3 → ⊥) → (f ≡ 4 → ⊥) → column m f p ≡ column w f p
  pub new_kind : (j : ℕ) → j < i → (get_or kinds j 0 ≡ 0 → ⊥) → column m 3 (place_of ranks new j) ≡ get_or kinds j 0
  pub new_link : (j : ℕ) → j < i → (get_or kinds j 0 ≡ 0 → ⊥) → column m 4 (place_of ranks new j) ≡ join_link kinds links old j
  pub met_kind : (j : ℕ) → j < i → get_or kinds j 0 ≡ 1 → column m 3 (get_or old (get_or links j 0) 0) ≡ 1
  pub met_link : (j : ℕ) → j < i → get_or kinds j 0 ≡ 1 → column m 4 (get_or old (get_or links j 0) 0) ≡ place_of ranks new j
  pub stays : (f p : ℕ) → f < 8 → ((j : ℕ) → j < i → (get_or kinds j 0 ≡ 0 → ⊥) → p ≡ place_of ranks new j → ⊥)
      → ((j : ℕ) → j < i → get_or kinds j 0 ≡ 1 → p ≡ get_or old (get_or links j 0) 0 → ⊥) → column m f p ≡ column w f p
