-- What questions 9 to 14 give on a block's memory: the first no, or the arrays of the volume that leaves. Assumes nothing.
use Rattle.std.specs.Prelude.{◌≡◌, List, ℕ, ◌+◌, ◌≤◌, ◌<◌, ◌^◌, length, get_or, take, drop, Err, Ok, Result}
use Rattle.model.specs.Values.{message_darts, last_block}
use Rattle.model.specs.Lists.{keep, Check}
use Rattle.model.specs.Cells.{faces, start_of}
use Rattle.model.specs.Image.{column, block_in}
use Rattle.model.specs.Departure.{departure_checks}
use Rattle.model.specs.Calls.{served, refused}
use Rattle.answers.specs.Answers.{answered, question}
use Rattle.cells.specs.Places.{Clear, InOrder, Marked, Numbered, marked, sewn_out, volume_of}
use Rattle.departure.specs.declared.Counts.{Counts}
use Rattle.answers.specs.declared.Refusal.{Refusal}

-- the faces of the marked volume as places, in message order
abbrev pub faces_at : List ℕ → List ℕ → List (List ℕ)
faces_at m marks = faces (column m 1) (marked (get_or m 2 0) marks)

-- a volume surveyed: marked by place, its faces in message order, its vertices numbered, and the counts of all these
pub record Surveyed (m : List ℕ) (c : Counts) (marks out starts numbers firsts : List ℕ) : Type 0 where
  pub place : ℕ
  pub place_below : place < get_or m 2 0
  pub volume_marked : Marked (volume_of m place) marks
  pub marks_size : get_or m 2 0 ≤ length marks
  pub order : InOrder (faces_at m marks) out starts c.darts c.faces
  pub numbering : Numbered (column m 1) (column m 2) (take c.darts out) numbers firsts c.vertices
  pub sewn_is : c.sewn ≡ length (keep (λ f. sewn_out m marks (start_of f)) (faces_at m marks))
  pub few : c.darts ≤ message_darts

-- 11 to 14 of the volume of the dart at place p: where it goes is not asked in them
abbrev pub volume_checks : ℕ → List ℕ → ℕ → List Check
volume_checks most m p = drop 2 (departure_checks most (block_in m) 0 (column m 0 p))

-- each answer of 11 to 14 is yes: the volume of the dart at place p, of at most `most` darts, may go
pub record VolumeDeparts (most : ℕ) (m : List ℕ) (p : ℕ) (c : Counts) (marks out starts numbers firsts : List ℕ) : Type 0 where
  pub asked : served tt ≡ answered (volume_checks most m p)
  pub survey : Surveyed m c marks out starts numbers firsts
  pub place_is : survey.place ≡ p
  pub counter_fits : get_or m 1 0 + c.sewn < 2 ^ 32

unfoldable pub VolumeLeaves : ℕ → List ℕ → ℕ → Result Counts Refusal → List ℕ → List ℕ → List ℕ → List ℕ → List ℕ → Type 0
VolumeLeaves most m p (Ok c) marks out starts numbers firsts = VolumeDeparts most m p c marks out starts numbers firsts
VolumeLeaves most m p (Err r) marks out starts numbers firsts = refused (question r) ≡ answered (volume_checks most m p)

-- each answer is yes: the volume of the dart with serial s, of at most `most` darts, may go to block j
pub record Departs (most : ℕ) (m : List ℕ) (j s : ℕ) (c : Counts) (marks out starts numbers firsts : List ℕ) : Type 0 where
  pub asked : served tt ≡ answered (departure_checks most (block_in m) j s)
  pub survey : Surveyed m c marks out starts numbers firsts
  pub serial_is : column m 0 survey.place ≡ s
  pub to_block : j ≤ last_block
  pub counter_fits : get_or m 1 0 + c.sewn < 2 ^ 32

abbrev pub Leaves : ℕ → List ℕ → ℕ → ℕ → Result Counts Refusal → List ℕ → List ℕ → List ℕ → List ℕ → List ℕ → Type 0
Leaves most m j s (Ok c) marks out starts numbers firsts = Departs most m j s c marks out starts numbers firsts
Leaves most m j s (Err r) marks out starts numbers firsts = refused (question r) ≡ answered (departure_checks most (block_in m) j s)

-- a volume that does not leave is marked nowhere
abbrev pub Forgotten : Result Counts Refusal → List ℕ → List ℕ → Type 0
Forgotten (Ok c) marks seen = Unit {0}
Forgotten (Err r) marks seen = Clear marks × Clear seen
