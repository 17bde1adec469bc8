-- The divided run: rounds of calls on the memories of a mesh. Assumes nothing.
use Rattle.std.specs.Prelude.{Bool, true, cond, ◌&&◌, List, [], ◌∷◌, map, ℕ, zero, suc, ◌+◌, ◌-◌, eqb, length, get_or, set, take, drop}
use Rattle.std.proofs.Math.Option.{none, some}
use Rattle.model.specs.Values.{Limits}
use Rattle.model.specs.Layouts.{Read, group, ◌⊕◌}
use Rattle.model.specs.Calls.{Answer, served, refused, number_of, send, receive, release, redirect}
use Rattle.model.specs.Runs.{Request, Outcome, refused_by, finished, unfinished}

-- memory b belongs to block b
-- a step is one of the four calls on the memory of one block
pub data Call : Type 0 where
  sending : ℕ → ℕ → List ℕ → Call
  receiving : List ℕ → Call
  releasing : ℕ → ℕ → Call
  redirecting : List ℕ → Call

pub record Step : Type 0 where
  pub block : ℕ
  pub call : Call

-- the number that a call gives, the block's memory afterwards, and the bytes that it sent
pub record Done : Type 0 where
  pub number : ℕ
  pub memory : List ℕ
  pub sent : List ℕ

abbrev pub written : Answer ℕ → ℕ
written (served n) = n
written (refused n) = 0

unfoldable pub called : Limits → List ℕ → Call → Done
called lim m (sending j s outbox) = let r = send lim m j s outbox in record { number = number_of r.answer; memory = m; sent = take (written r.answer) r.lent }
called lim m (receiving message) = let r = receive lim m message in record { number = number_of r.answer; memory = r.lent; sent = [] }
called lim m (releasing j s) = let r = release lim m j s in record { number = number_of r.answer; memory = r.lent; sent = [] }
called lim m (redirecting message) = let r = redirect lim m message in record { number = number_of r.answer; memory = r.lent; sent = [] }

abbrev pub memory_at : List (List ℕ) → ℕ → List ℕ
memory_at ms b = get_or ms b []

unfoldable pub done : (ℕ → Limits) → List (List ℕ) → Step → Done
done lims ms s = called (lims s.block) (memory_at ms s.block) s.call

-- the memories after a step
abbrev pub stored : List (List ℕ) → Step → Done → List (List ℕ)
stored ms s d = set ms s.block d.memory

-- steps one after the other: whether all gave 0, and the memories
unfoldable pub run_steps : (ℕ → Limits) → List Step → List (List ℕ) → Bool × List (List ℕ)
run_steps lims [] ms = (true, ms)
run_steps lims (s ∷ ss) ms =
    let d = done lims ms s in
    let rest = run_steps lims ss (stored ms s d) in
    (eqb d.number 0 && rest.0, rest.1)

-- messages that stand one after the other, n at the most: a first number, and as many bytes as it says
abbrev pub message_length : List ℕ → Read ℕ → ℕ
message_length bytes none = length bytes
message_length bytes (some r) = length bytes - length r.1 + r.0

unfoldable pub cut : ℕ → List ℕ → List (List ℕ)
cut zero bytes = []
cut (suc n) [] = []
cut (suc n) (b ∷ bs) =
    let bytes = b ∷ bs in
    let size = message_length bytes (group.get bytes) in
    take size bytes ∷ cut n (drop size bytes)

unfoldable pub messages_in : List ℕ → List (List ℕ)
messages_in bytes = cut (length bytes) bytes

-- a message's first numbers: length, kind, from, to
abbrev pub FirstNumbers : Type 0
FirstNumbers = ℕ × (ℕ × (ℕ × ℕ))

abbrev pub addressed_to : FirstNumbers → ℕ
addressed_to h = h.1.1.1

-- the block that a message is addressed to
abbrev pub to_number : Read FirstNumbers → ℕ
to_number none = 0
to_number (some r) = addressed_to r.0

unfoldable pub addressee : List ℕ → ℕ
addressee bytes = to_number ((group ⊕ group ⊕ group ⊕ group).get bytes)

-- the steps of a round, in terms of the messages that the first one sends
abbrev pub send_step : Request → List ℕ → Step
send_step r outbox = record { block = r.from; call = sending r.to r.serial outbox }

abbrev pub receive_step : Request → List (List ℕ) → Step
receive_step r messages = record { block = r.to; call = receiving (get_or messages 0 []) }

abbrev pub redirect_step : List ℕ → Step
redirect_step message = record { block = addressee message; call = redirecting message }

abbrev pub last_steps : Request → List (List ℕ) → List Step
last_steps r messages = record { block = r.from; call = releasing r.to r.serial } ∷ map redirect_step (drop 1 messages)

-- what the first step of a round sends
unfoldable pub sent_messages : (ℕ → Limits) → List (List ℕ) → Request → List ℕ → List (List ℕ)
sent_messages lims ms r outbox = messages_in (done lims ms (send_step r outbox)).sent

pub record Round : Type 0 where
  pub outcome : Outcome
  pub memories : List (List ℕ)

-- "A round is write, take; then, if taken, let go and all tells in any order": `order` is that order
unfoldable pub round : (ℕ → Limits) → List (List ℕ) → Request → List ℕ → List Step → Round
round lims ms r outbox order =
    let sent = done lims ms (send_step r outbox) in
    let take_step = receive_step r (messages_in sent.sent) in
    let taken = done lims ms take_step in
    let last = run_steps lims order (stored ms take_step taken) in
    let ended : Round = record { outcome = cond last.0 finished unfinished; memories = last.1 } in
    let not_taken : Round = record { outcome = refused_by taken.number; memories = stored ms take_step taken } in
    let was_sent : Round = cond (eqb taken.number 0) ended not_taken in
    cond (eqb sent.number 0) was_sent (record { outcome = refused_by sent.number; memories = ms })
