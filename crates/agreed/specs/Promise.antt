-- THE PROMISE about `rounds::play_all`: after any list of requests, played on the memory of a sound mesh, some of whose blocks may be viewers',
-- with an outbox of 65,536 bytes, each
-- dart has the links and the point that it had at the start, the mesh is sound, every round that was taken is finished, and outcomes, cells
-- and counts are those of a mesh that was never divided. Assumes nothing.
use Rattle.std.specs.Prelude.{◌≡◌, true, List, map, ℕ, ◌≤◌, leb, length, take}
use Rattle.model.specs.Lists.{all}
use Rattle.model.specs.Values.{Block, limits_in}
use Rattle.model.specs.Sound.{Sound}
use Rattle.model.specs.Image.{memory_of}
use Rattle.model.specs.Runs.{Request}
use Rattle.model.specs.UndividedRun.{start, whole_map}
use Rattle.model.specs.Demands.{Matches, outbox_bytes}
use Rattle.rounds.specs.Played.{own_memories}
use Rattle.rounds.specs.Requests.{requests_in, outcome_number, PlayedRun, played_run, over_words, PlayedAll}
use Rattle.agreed.specs.Course.{Course, course}

-- the undivided run of a list from the mesh at the start
abbrev pub course_of : ℕ → List Block → List Request → Course
course_of viewers bs rs = course viewers (length bs) (start bs) rs

-- a list as the divided run has it
pub record Agreed (viewers : ℕ) (bs : List Block) (rs : List Request) (d : PlayedRun) : Type 0 where
  pub same_outcomes : d.outcomes ≡ (course_of viewers bs rs).outcomes
  -- an outcome's number is a question's, and no question has the number of a round that was taken and not finished
  pub never_unfinished : all (λ o. leb (outcome_number o) 29) d.outcomes ≡ true
  pub matches : Matches (limits_in viewers) d.memories (course_of viewers bs rs).state
  pub same_count : length matches.mesh ≡ length bs
  -- the undivided run changes no link and no point
  pub same_map : (x : ℕ) → whole_map matches.mesh x ≡ whole_map bs x

abbrev pub ListsAgree : Type 0
ListsAgree = (viewers : ℕ) (bs : List Block) (outbox : List ℕ) (rs : List Request) → Sound (limits_in viewers) bs → outbox_bytes ≤ length outbox → Agreed viewers bs rs (played_run viewers (map (memory_of (limits_in viewers)) bs) outbox rs)

-- what `play_all` leaves of a mesh and writes as outcomes
pub record RunKept (viewers : ℕ) (bs : List Block) (rs : List Request) (outcomes m' outcomes' : List ℕ) : Type 0 where
  pub outcomes_are : outcomes' ≡ over_words (map outcome_number (course_of viewers bs rs).outcomes) outcomes
  pub never_unfinished : all (λ n. leb n 29) (take (length rs) outcomes') ≡ true
  pub matches : Matches (limits_in viewers) (own_memories viewers m') (course_of viewers bs rs).state
  pub same_map : (x : ℕ) → whole_map matches.mesh x ≡ whole_map bs x

abbrev pub Promise : Type 0
Promise = (viewers : ℕ) (bs : List Block) (m requests outcomes outbox m' outcomes' outbox' : List ℕ) → Sound (limits_in viewers) bs → own_memories viewers m ≡ map (memory_of (limits_in viewers)) bs → outbox_bytes ≤ length outbox
    → PlayedAll viewers m requests outcomes outbox m' outcomes' outbox'
    → RunKept viewers bs (take (length outcomes) (requests_in requests)) outcomes m' outcomes'
