-- What a run is given, and how a round ends. Assumes nothing.
use Rattle.std.specs.Prelude.{Bool, true, false, ℕ}

-- "requests (i, j, a serial)"
pub record Request : Type 0 where
  pub from : ℕ
  pub to : ℕ
  pub serial : ℕ

-- a round "is refused when write or take gives a number other than 0, and ends there; it finishes when let go and every tell give 0"
pub data Outcome : Type 0 where
  refused_by : ℕ → Outcome
  finished : Outcome
  unfinished : Outcome

abbrev pub is_refused : Outcome → Bool
is_refused (refused_by n) = true
is_refused finished = false
is_refused unfinished = false
