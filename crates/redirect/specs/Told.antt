-- What the parts of the call answer: the kind of a message, and what an update does to a block's memory. Assumes nothing.
use Rattle.std.specs.Prelude.{◌≡◌, true, List, ◌++◌, ℕ, ◌≤◌, length}
use Rattle.model.specs.Values.{Limits, last_block}
use Rattle.model.specs.Image.{words_of, block_in, is_image, memory_checks}
use Rattle.model.specs.Messages.{Transfer, Update, Message, a_transfer, an_update, no_message, message_in}
use Rattle.model.specs.Arrival.{redirect_checks, redirected_from}
use Rattle.model.specs.Calls.{Answer, Result, storing}
use Rattle.answers.specs.Answers.{Gives}
use Rattle.inbox.specs.declared.message.Update.{Update as UpdateOutline}
use Rattle.inbox.specs.declared.received.Received.{Received}
use Rattle.inbox.specs.declared.received.Received.TheVariants as received
use Rattle.inbox.specs.Outlines.{UpdateOutlined}

-- the message that a slice is, but for the darts of a transfer
abbrev pub KindSaid : List ℕ → Received → Type 0
KindSaid s (received.Transfer f l) = (t : Transfer) × (message_in s ≡ a_transfer t)
KindSaid s (received.Update o) = (u : Update) × (message_in s ≡ an_update u) × UpdateOutlined u s o
KindSaid s received.Nothing = message_in s ≡ no_message

pub record KindRead (s : List ℕ) (r : Received) : Type 0 where
  pub said : KindSaid s r

-- an outline that can be followed
pub record Follows (s : List ℕ) (o : UpdateOutline) : Type 0 where
  pub from_small : o.from ≤ last_block
  pub block_small : o.block ≤ last_block
  pub labels_within : o.labels ≤ length s

-- the call on a message that was read, by the block's limits
unfoldable pub redirect_by : Limits → List ℕ → Message → Result (Unit {0})
redirect_by lim m received = storing lim (memory_checks lim m ++ redirect_checks (block_in m) received) m (redirected_from (block_in m) received)

-- the call on the update that an outline tells, by any limits that the memory is right for
pub record Redirects (m s : List ℕ) (o : UpdateOutline) (given : Answer (Unit {0})) (lent : List ℕ) : Type 0 where
  pub gives : (lim : Limits) → length m ≡ words_of lim → is_image lim m ≡ true → (u : Update) → UpdateOutlined u s o → Gives (redirect_by lim m (an_update u)) given lent
