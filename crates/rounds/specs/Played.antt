-- Rounds on the memory of a whole mesh. Assumes nothing.
use Rattle.std.specs.Prelude.{◌≡◌, Bool, false, cond, ◌&&◌, List, [], ℕ, ◌*◌, ◌/◌, ◌%◌, ltb, eqb, length, get_or, take, drop}
use Rattle.model.specs.Lists.{tab}
use Rattle.model.specs.Values.{Limits, limits_in}
use Rattle.model.specs.Image.{words, words_of}
use Rattle.model.specs.Calls.{number_of, send}
use Rattle.model.specs.Runs as runs
use Rattle.model.specs.Runs.{Request}
use Rattle.model.specs.DividedRun.{Call, called, Step, Round, done, stored, run_steps, messages_in, receive_step, last_steps, sent_messages, round, memory_at}
use Rattle.answers.specs.Answers.{question, OrRefused, answer_of}
use Rattle.rounds.specs.Either.{limits_by}
use Rattle.rounds.specs.declared.Outcome.{Outcome}
use Rattle.rounds.specs.declared.Outcome.TheVariants as outcome

-- the memory of block i among these viewers: the first words of its room in the mesh
abbrev pub own_memory : ℕ → List ℕ → ℕ → List ℕ
own_memory viewers m i = take (words_of (limits_in viewers i)) (drop (i * words) m)

-- "In the divided run a viewer's memory has its own size"
unfoldable pub own_memories : ℕ → List ℕ → List (List ℕ)
own_memories viewers m = tab (own_memory viewers m) (length m / words)

-- whether a word of a mesh of k blocks is in the memory of one
unfoldable pub owned : ℕ → ℕ → ℕ → Bool
owned viewers k w = ltb (w / words) k && ltb (w % words) (words_of (limits_in viewers (w / words)))

-- the words of a mesh that no block's memory has stay
pub record Elsewhere (viewers : ℕ) (m m' : List ℕ) : Type 0 where
  pub size : length m' ≡ length m
  pub same : (w : ℕ) → owned viewers (length m / words) w ≡ false → get_or m' w 0 ≡ get_or m w 0

abbrev pub at_block : ℕ → Call → Step
at_block b c = record { block = b; call = c }

-- one call on the memory of one block: its number, and the memories afterwards
pub record Stepped (viewers : ℕ) (m : List ℕ) (s : Step) (number : ℕ) (m' : List ℕ) : Type 0 where
  pub number_is : number ≡ (done (limits_in viewers) (own_memories viewers m) s).number
  pub stored_are : own_memories viewers m' ≡ stored (own_memories viewers m) s (done (limits_in viewers) (own_memories viewers m) s)
  pub elsewhere : Elsewhere viewers m m'

-- a function on a block's memory does what a call does, by the limits of the memory's size; a call on no memory is refused by 1
pub record DoesCall (Gave : List ℕ → OrRefused (Unit {0}) → List ℕ → Type 0) (c : Call) : Type 0 where
  pub number_is : {m m' : List ℕ} {r : OrRefused (Unit {0})} → Gave m r m' → number_of (answer_of r) ≡ (called (limits_by (length m)) m c).number
  pub memory_is : {m m' : List ℕ} {r : OrRefused (Unit {0})} → Gave m r m' → m' ≡ (called (limits_by (length m)) m c).memory
  pub nowhere : (lim : Limits) → 1 ≡ (called lim [] c).number

-- steps one after the other: whether all gave 0, and the memories afterwards
pub record Ran (viewers : ℕ) (m : List ℕ) (ss : List Step) (ok : Bool) (m' : List ℕ) : Type 0 where
  pub said : ok ≡ (run_steps (limits_in viewers) ss (own_memories viewers m)).0
  pub stored_are : own_memories viewers m' ≡ (run_steps (limits_in viewers) ss (own_memories viewers m)).1
  pub elsewhere : Elsewhere viewers m m'

-- the model's outcome of each case
abbrev pub outcome_of : Outcome → runs.Outcome
outcome_of outcome.Finished = runs.finished
outcome_of outcome.Unfinished = runs.unfinished
outcome_of (outcome.Refused r) = runs.refused_by (question r)

abbrev pub asks_for : ℕ → ℕ → ℕ → Request
asks_for from to serial = record { from = from; to = to; serial = serial }

-- what a round comes to once its messages are sent, its last steps in their own order
unfoldable pub delivered : ℕ → List (List ℕ) → Request → List (List ℕ) → Round
delivered viewers ms r messages =
    let lims = limits_in viewers in
    let take_step = receive_step r messages in
    let taken = done lims ms take_step in
    let last = run_steps lims (last_steps r messages) (stored ms take_step taken) in
    let ended : Round = record { outcome = cond last.0 runs.finished runs.unfinished; memories = last.1 } in
    let not_taken : Round = record { outcome = runs.refused_by taken.number; memories = stored ms take_step taken } in
    cond (eqb taken.number 0) ended not_taken

pub record Delivered (viewers : ℕ) (m : List ℕ) (from to serial : ℕ) (sent : List ℕ) (o : Outcome) (m' : List ℕ) : Type 0 where
  pub outcome_is : outcome_of o ≡ (delivered viewers (own_memories viewers m) (asks_for from to serial) (messages_in sent)).outcome
  pub memories_are : own_memories viewers m' ≡ (delivered viewers (own_memories viewers m) (asks_for from to serial) (messages_in sent)).memories
  pub elsewhere : Elsewhere viewers m m'

-- the round of the divided run, its last steps in their own order
abbrev pub round_in_order : ℕ → List (List ℕ) → Request → List ℕ → Round
round_in_order viewers ms r outbox = round (limits_in viewers) ms r outbox (last_steps r (sent_messages (limits_in viewers) ms r outbox))

-- the outbox after a round: as send leaves it
abbrev pub outbox_after : ℕ → List (List ℕ) → Request → List ℕ → List ℕ
outbox_after viewers ms r outbox = (send (limits_in viewers r.from) (memory_at ms r.from) r.to r.serial outbox).lent

pub record Played (viewers : ℕ) (m : List ℕ) (from to serial : ℕ) (outbox : List ℕ) (o : Outcome) (m' outbox' : List ℕ) : Type 0 where
  pub outcome_is : outcome_of o ≡ (round_in_order viewers (own_memories viewers m) (asks_for from to serial) outbox).outcome
  pub memories_are : own_memories viewers m' ≡ (round_in_order viewers (own_memories viewers m) (asks_for from to serial) outbox).memories
  pub elsewhere : Elsewhere viewers m m'
  pub outbox_is : outbox' ≡ outbox_after viewers (own_memories viewers m) (asks_for from to serial) outbox
