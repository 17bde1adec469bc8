-- Lists of requests, played one after the other. Assumes nothing.
use Rattle.std.specs.Prelude.{◌≡◌, List, [], ◌∷◌, ◌++◌, map, ℕ, ◌+◌, ◌*◌, ◌/◌, length, get_or, take, drop}
use Rattle.model.specs.Lists.{tab}
use Rattle.model.specs.Runs as runs
use Rattle.model.specs.Runs.{Request}
use Rattle.rounds.specs.Played.{own_memories, Elsewhere, asks_for, round_in_order, outbox_after}

-- three numbers for each request: from, to, serial
abbrev pub request_at : List ℕ → ℕ → Request
request_at l i = asks_for (get_or l (i * 3) 0) (get_or l (i * 3 + 1) 0) (get_or l (i * 3 + 2) 0)

-- the requests that stand one after the other; one or two numbers left over at the end are none
unfoldable pub requests_in : List ℕ → List Request
requests_in l = tab (request_at l) (length l / 3)

-- the number of an outcome: a refusal has its question's, and no question has 255
abbrev pub unfinished_number : ℕ
unfinished_number = 255

abbrev pub outcome_number : runs.Outcome → ℕ
outcome_number runs.finished = 0
outcome_number (runs.refused_by n) = n
outcome_number runs.unfinished = unfinished_number

-- what a list comes to: the outcome of each request, the memories and the outbox afterwards
pub record PlayedRun : Type 0 where
  pub outcomes : List runs.Outcome
  pub memories : List (List ℕ)
  pub outbox : List ℕ

-- each is played on what the one before it left, however that one ended
unfoldable pub played_run : ℕ → List (List ℕ) → List ℕ → List Request → PlayedRun
played_run viewers ms outbox [] = record { outcomes = []; memories = ms; outbox = outbox }
played_run viewers ms outbox (r ∷ rs) =
    let first = round_in_order viewers ms r outbox in
    let rest = played_run viewers first.memories (outbox_after viewers ms r outbox) rs in
    record { outcomes = first.outcome ∷ rest.outcomes; memories = rest.memories; outbox = rest.outbox }

-- values written over the front of a list
abbrev pub over_words : List ℕ → List ℕ → List ℕ
over_words values l = values ++ drop (length values) l

-- one request played: the number of its outcome
pub record PlayedOne (viewers : ℕ) (m : List ℕ) (r : Request) (outbox : List ℕ) (number : ℕ) (m' outbox' : List ℕ) : Type 0 where
  pub number_is : number ≡ outcome_number (round_in_order viewers (own_memories viewers m) r outbox).outcome
  pub memories_are : own_memories viewers m' ≡ (round_in_order viewers (own_memories viewers m) r outbox).memories
  pub elsewhere : Elsewhere viewers m m'
  pub outbox_is : outbox' ≡ outbox_after viewers (own_memories viewers m) r outbox

-- requests played, and the numbers of their outcomes written in order; what stands behind these stays
pub record RequestsListed (viewers : ℕ) (m : List ℕ) (rs : List Request) (outcomes outbox m' outcomes' outbox' : List ℕ) : Type 0 where
  pub outcomes_are : outcomes' ≡ over_words (map outcome_number (played_run viewers (own_memories viewers m) outbox rs).outcomes) outcomes
  pub memories_are : own_memories viewers m' ≡ (played_run viewers (own_memories viewers m) outbox rs).memories
  pub elsewhere : Elsewhere viewers m m'
  pub outbox_is : outbox' ≡ (played_run viewers (own_memories viewers m) outbox rs).outbox

-- as many requests as there is room for outcomes
abbrev pub PlayedAll : ℕ → List ℕ → List ℕ → List ℕ → List ℕ → List ℕ → List ℕ → List ℕ → Type 0
PlayedAll viewers m requests outcomes outbox m' outcomes' outbox' =
    RequestsListed viewers m (take (length outcomes) (requests_in requests)) outcomes outbox m' outcomes' outbox'
