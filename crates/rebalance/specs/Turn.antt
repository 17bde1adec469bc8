-- One step of balancing a mesh: the next move, and the round that carries it out. Assumes nothing.
use Rattle.std.specs.Prelude.{◌≡◌, List, ℕ}
use Rattle.model.specs.Values.{limits_in}
use Rattle.model.specs.Balance as balance
use Rattle.model.specs.Balance.{Oracle, NextMove, Move, Balance}
use Rattle.model.specs.Calls.{Answer, served, refused, next_move}
use Rattle.model.specs.Runs as runs
use Rattle.answers.specs.Answers.{question}
use Rattle.rounds.specs.Played.{own_memories, Elsewhere, asks_for, round_in_order, outbox_after}
use Rattle.rebalance.specs.declared.Ending.{Ending}
use Rattle.rebalance.specs.declared.Ending.TheVariants as ending

-- what a step comes to
pub data End : Type 0 where
  level : End
  blocked : End
  moved : Move → End
  unfinished : Move → End
  refused_by : ℕ → End

abbrev pub a_move : ℕ → ℕ → ℕ → Move
a_move d r s = record { donor = d; recipient = r; serial = s }

-- the values of each case
abbrev pub ending_of : Ending → End
ending_of ending.Level = level
ending_of ending.Blocked = blocked
ending_of (ending.Moved d r s) = moved (a_move d r s)
ending_of (ending.Unfinished d r s) = unfinished (a_move d r s)
ending_of (ending.Refused q) = refused_by (question q)

-- how the round of a move ends
abbrev pub ending_by : Move → runs.Outcome → End
ending_by t runs.finished = moved t
ending_by t runs.unfinished = unfinished t
ending_by t (runs.refused_by n) = refused_by n

-- what a step comes to, the memories of the blocks and the outbox afterwards
pub record Turn : Type 0 where
  pub ending : End
  pub memories : List (List ℕ)
  pub outbox : List ℕ

abbrev pub still : ℕ → List ℕ → List ℕ → End → Turn
still viewers m outbox e = record { ending = e; memories = own_memories viewers m; outbox = outbox }

-- the round of a move
unfoldable pub round_turn : ℕ → List ℕ → List ℕ → Move → Turn
round_turn viewers m outbox t =
    let asked = asks_for t.donor t.recipient t.serial in
    let r = round_in_order viewers (own_memories viewers m) asked outbox in
    record {
      ending = ending_by t r.outcome;
      memories = r.memories;
      outbox = outbox_after viewers (own_memories viewers m) asked outbox;
    }

-- the move of an answer, without what stands beside it
abbrev pub next_answer : Answer Balance → Answer NextMove
next_answer (served b) = served b.next
next_answer (refused n) = refused n

abbrev pub asked_next : ℕ → List ℕ → Oracle → List ℕ → Answer NextMove
asked_next viewers m o scratch = next_answer (next_move (limits_in viewers) m o scratch).answer

-- where there is no move nothing changes
abbrev pub turn_by : ℕ → List ℕ → List ℕ → Answer NextMove → Turn
turn_by viewers m outbox (served balance.level) = still viewers m outbox level
turn_by viewers m outbox (served balance.blocked) = still viewers m outbox blocked
turn_by viewers m outbox (served (balance.move t)) = round_turn viewers m outbox t
turn_by viewers m outbox (refused n) = still viewers m outbox (refused_by n)

unfoldable pub turn : ℕ → List ℕ → Oracle → List ℕ → List ℕ → Turn
turn viewers m o scratch outbox = turn_by viewers m outbox (asked_next viewers m o scratch)

-- a turn of a mesh: how it ended, the mesh and the outbox afterwards; the words that no block's memory has stay
pub record TurnEnded (viewers : ℕ) (t : Turn) (m : List ℕ) (s : Ending) (m' outbox' : List ℕ) : Type 0 where
  pub ending_is : ending_of s ≡ t.ending
  pub memories_are : own_memories viewers m' ≡ t.memories
  pub elsewhere : Elsewhere viewers m m'
  pub outbox_is : outbox' ≡ t.outbox

-- a step; the scratch is as next move leaves it
pub record Levelled (viewers : ℕ) (m : List ℕ) (o : Oracle) (scratch outbox : List ℕ) (s : Ending) (m' scratch' outbox' : List ℕ) : Type 0 where
  pub ended : TurnEnded viewers (turn viewers m o scratch outbox) m s m' outbox'
  pub scratch_is : scratch' ≡ (next_move (limits_in viewers) m o scratch).lent
