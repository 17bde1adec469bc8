-- What questions 11, 13 and 14 leave in the arrays, by places, with a yes and with a no. Assumes nothing.
use Rattle.std.specs.Prelude.{◌≡◌, true, false, List, ℕ, ◌+◌, ◌≤◌, ◌<◌, ◌^◌, ltb, length, get_or, take, None, Option, Some}
use Rattle.model.specs.Lists.{keep}
use Rattle.model.specs.Cells.{start_of}
use Rattle.model.specs.Image.{count_in, column}
use Rattle.cells.specs.Places.{Clear, Listed, Marked, Numbered, ends_once, places_in, sewn_out, volume_of}
use Rattle.departure.specs.Asked.{faces_at}

-- 11: the volume of the dart at place p, of t darts, is marked and listed
pub record VolumeWalked (m : List ℕ) (p t : ℕ) (marks out : List ℕ) : Type 0 where
  pub volume_marked : Marked (volume_of m p) marks
  pub size_is : t ≡ length (places_in (count_in m) (volume_of m p))
  pub listed : Listed (count_in m) (volume_of m p) out t

-- it has at most `most` darts, or nothing is marked
abbrev pub WalkedWithin : ℕ → List ℕ → ℕ → Option ℕ → List ℕ → List ℕ → Type 0
WalkedWithin most m p (Some t) marks out = VolumeWalked m p t marks out × (t ≤ most)
WalkedWithin most m p None marks out = (most < length (places_in (count_in m) (volume_of m p))) × Clear marks

-- 13: the vertices of the first darts of `out` are numbered, and no edge of them has the ends of another, or one end twice
pub record PairsAsked (m out : List ℕ) (darts : ℕ) (numbers firsts : List ℕ) (vertices : ℕ) : Type 0 where
  pub numbering : Numbered (column m 1) (column m 2) (take darts out) numbers firsts vertices
  pub once : ends_once (column m 1) (column m 2) numbers firsts vertices ≡ true

pub record Unpaired (m out : List ℕ) (darts : ℕ) (numbers firsts : List ℕ) : Type 0 where
  pub vertices : ℕ
  pub numbering : Numbered (column m 1) (column m 2) (take darts out) numbers firsts vertices
  pub twice : ends_once (column m 1) (column m 2) numbers firsts vertices ≡ false

abbrev pub PairsOnce : List ℕ → List ℕ → ℕ → Option ℕ → List ℕ → List ℕ → Type 0
PairsOnce m out darts (Some vertices) numbers firsts = PairsAsked m out darts numbers firsts vertices
PairsOnce m out darts None numbers firsts = Unpaired m out darts numbers firsts

-- 14: how many faces of the marked volume are sewn to another
abbrev pub sewn_away : List ℕ → List ℕ → ℕ
sewn_away m marks = length (keep (λ f. sewn_out m marks (start_of f)) (faces_at m marks))

abbrev pub CounterFits : List ℕ → List ℕ → Option ℕ → Type 0
CounterFits m marks (Some k) = (k ≡ sewn_away m marks) × (get_or m 1 0 + k < 2 ^ 32)
CounterFits m marks None = ltb (get_or m 1 0 + sewn_away m marks) (2 ^ 32) ≡ false
