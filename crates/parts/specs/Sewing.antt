-- The faces of part 2 in arrays: each meets a face of its own. Assumes nothing.
use Rattle.std.specs.Prelude.{◌≡◌, Bool, true, cond, not, ◌&&◌, List, ℕ, ◌≤◌, ltb, eqb, length, get_or}
use Rattle.model.specs.Lists.{all, mem, tab}
use Rattle.model.specs.Cells.{cycle}
use Rattle.model.specs.Image.{column}
use Rattle.model.specs.Values.{message_darts, last_block}
use Rattle.cells.specs.Places.{Assigned}
use Rattle.parts.specs.Faces.{Over, Spans, Faced}
use Rattle.parts.specs.Meets.{Meetable, met_at, entry_right}

-- an entry that is right, on a face not seen before: its darts are sewn to the places that they meet, and that face is seen
pub record Entered (m d ranks : List ℕ) (n from y at size : ℕ) (trail seen seen' kinds kinds' links links' : List ℕ) (r : Bool) : Type 0 where
  pub said : r ≡ (ltb y n && eqb (get_or seen y 0) 0 && entry_right m d ranks from y at size)
  pub seen_are : r ≡ true → Assigned 1 (cycle (column m 1) y) seen seen'
  pub kinds_are : r ≡ true → Over at size (λ j. 1) kinds kinds'
  pub links_are : r ≡ true → Over at size (met_at (cycle (column m 1) y) size) links links'

-- the dart at place q is on no face of the first e entries
abbrev pub clear_of : List ℕ → List ℕ → ℕ → ℕ → Bool
clear_of m places e q = all (λ d. not (mem q (cycle (column m 1) (get_or places d 0)))) (tab (λ d. d) e)

-- the places that are
pub record SeenBy (m places : List ℕ) (e : ℕ) (seen : List ℕ) : Type 0 where
  pub each : (q : ℕ) → get_or seen q 0 ≡ cond (clear_of m places e q) 0 1

-- how many darts the face of entry e has, which starts at its index
abbrev pub face_size : List ℕ → List ℕ → ℕ → ℕ
face_size z indices e = get_or z (get_or indices e 0) 0

-- entry e has a place, on no face of an entry before, and is right
abbrev pub passes_at : List ℕ → List ℕ → List ℕ → List ℕ → List ℕ → List ℕ → ℕ → ℕ → ℕ → Bool
passes_at m d ranks z places indices n from e =
    ltb (get_or places e 0) n && clear_of m places e (get_or places e 0) && entry_right m d ranks from (get_or places e 0) (get_or indices e 0) (face_size z indices e)

-- what the entries need: their faces lie in the k new darts
pub record Sewable (m d ranks z places indices : List ℕ) (n k from c : ℕ) : Type 0 where
  pub beside : Meetable m n d k ranks
  pub sender : from ≤ last_block
  pub few : c ≤ message_darts
  pub sizes_size : k ≤ length z
  pub places_size : c ≤ length places
  pub indices_size : c ≤ length indices
  pub spans : Spans z indices k c

-- whether all entries pass; then their darts are sewn
pub record Part2Told (m d ranks z places indices : List ℕ) (n from c : ℕ) (kinds kinds' links links' : List ℕ) (r : Bool) : Type 0 where
  pub said : r ≡ all (passes_at m d ranks z places indices n from) (tab (λ e. e) c)
  pub kinds_are : r ≡ true → Faced z indices c (λ e j. 1) kinds kinds'
  pub links_are : r ≡ true → Faced z indices c (λ e. met_at (cycle (column m 1) (get_or places e 0)) (face_size z indices e)) links links'
