-- Balancing a mesh: step after step, until there is no move or no room to write another down. Assumes nothing.
use Rattle.std.specs.Prelude.{◌≡◌, List, [], ◌∷◌, ◌++◌, ℕ, zero, suc, ◌+◌, ◌*◌, ◌/◌, length, get_or, set, drop}
use Rattle.model.specs.Lists.{concat, tab}
use Rattle.model.specs.Values.{limits_in}
use Rattle.model.specs.Image.{words, words_of}
use Rattle.model.specs.Balance as balance
use Rattle.model.specs.Balance.{Oracle, NextMove, Move}
use Rattle.model.specs.Calls.{Answer, served, refused}
use Rattle.answers.specs.Answers.{question}
use Rattle.mesh.specs.Parts.{part}
use Rattle.rounds.specs.Requests.{over_words}
use Rattle.rebalance.specs.Turn as step
use Rattle.rebalance.specs.Turn.{End, asked_next, turn}
use Rattle.rebalance.specs.declared.moves.Balanced.{Balanced}
use Rattle.rebalance.specs.declared.moves.Balanced.TheVariants as balanced-as

-- how balancing ends; full: there is another move, and no room for it
pub data Stop : Type 0 where
  level : Stop
  blocked : Stop
  full : Stop
  unfinished : Stop
  refused_by : ℕ → Stop

-- what balancing comes to: how it ends, the moves that were carried out, the mesh and the outbox afterwards
pub record BalancingRun : Type 0 where
  pub stop : Stop
  pub moves : List Move
  pub mesh : List ℕ
  pub outbox : List ℕ

abbrev pub stopped : Stop → List ℕ → List ℕ → BalancingRun
stopped e m outbox = record { stop = e; moves = []; mesh = m; outbox = outbox }

-- after a move
abbrev pub moved_first : Move → BalancingRun → BalancingRun
moved_first t r = record { stop = r.stop; moves = t ∷ r.moves; mesh = r.mesh; outbox = r.outbox }

-- what stands behind the last whole block
abbrev pub left_over : List ℕ → List ℕ
left_over m = drop (length m / words * words) m

-- a mesh with these memories for its blocks; the words that no block's memory has stay
unfoldable pub with_memories : ℕ → List ℕ → List (List ℕ) → List ℕ
with_memories viewers m ms = concat (tab (λ i. get_or ms i [] ++ drop (words_of (limits_in viewers i)) (part m i)) (length m / words)) ++ left_over m

-- where there is no room the next move is asked for and not carried out
abbrev pub stop_by : Answer NextMove → Stop
stop_by (served balance.level) = level
stop_by (served balance.blocked) = blocked
stop_by (served (balance.move t)) = full
stop_by (refused n) = refused_by n

-- a step that moved a volume is followed by the rest; any other is the last
abbrev pub after_step : End → List ℕ → List ℕ → BalancingRun → BalancingRun
after_step (step.moved t) m outbox rest = moved_first t rest
after_step step.level m outbox rest = stopped level m outbox
after_step step.blocked m outbox rest = stopped blocked m outbox
after_step (step.unfinished t) m outbox rest = stopped unfinished m outbox
after_step (step.refused_by n) m outbox rest = stopped (refused_by n) m outbox

-- n moves at the most
unfoldable pub balanced : ℕ → ℕ → List ℕ → Oracle → List ℕ → List ℕ → BalancingRun
balanced viewers zero m o scratch outbox = stopped (stop_by (asked_next viewers m o scratch)) m outbox
balanced viewers (suc n) m o scratch outbox =
    let t = turn viewers m o scratch outbox in
    let m' = with_memories viewers m t.memories in
    let rest = balanced viewers n m' o scratch t.outbox in
    after_step t.ending m' t.outbox rest

-- moves as numbers, three for each, as requests are written
unfoldable pub numbers_of : List Move → List ℕ
numbers_of [] = []
numbers_of (t ∷ ts) = t.donor ∷ t.recipient ∷ t.serial ∷ numbers_of ts

-- a move written at its place
abbrev pub with_move : List ℕ → ℕ → Move → List ℕ
with_move l n t = set (set (set l (n * 3) t.donor) (n * 3 + 1) t.recipient) (n * 3 + 2) t.serial

-- the case and the number of each answer
abbrev pub stop_of : Balanced → Stop
stop_of (balanced-as.Level n) = level
stop_of (balanced-as.Blocked n) = blocked
stop_of (balanced-as.Full n) = full
stop_of (balanced-as.Unfinished n) = unfinished
stop_of (balanced-as.Refused n q) = refused_by (question q)

abbrev pub count_of : Balanced → ℕ
count_of (balanced-as.Level n) = n
count_of (balanced-as.Blocked n) = n
count_of (balanced-as.Full n) = n
count_of (balanced-as.Unfinished n) = n
count_of (balanced-as.Refused n q) = n

-- the next move asked for and not carried out, after n moves
pub record TurnAsked (viewers : ℕ) (m : List ℕ) (o : Oracle) (scratch : List ℕ) (n : ℕ) (b : Balanced) (scratch' : List ℕ) : Type 0 where
  pub stop_is : stop_of b ≡ stop_by (asked_next viewers m o scratch)
  pub count_is : count_of b ≡ n
  pub scratch_is : scratch' ≡ scratch

-- what balancing ensures: the answer, how many moves were carried out, and everything that was lent
pub record Ensured (r : BalancingRun) (scratch moves : List ℕ) (b : Balanced) (m' scratch' outbox' moves' : List ℕ) : Type 0 where
  pub stop_is : stop_of b ≡ r.stop
  pub count_is : count_of b ≡ length r.moves
  pub mesh_is : m' ≡ r.mesh
  pub scratch_is : scratch' ≡ scratch
  pub outbox_is : outbox' ≡ r.outbox
  pub moves_are : moves' ≡ over_words (numbers_of r.moves) moves

-- as many moves as there is room for
abbrev pub Balances : ℕ → List ℕ → Oracle → List ℕ → List ℕ → List ℕ → Balanced → List ℕ → List ℕ → List ℕ → List ℕ → Type 0
Balances viewers m o scratch outbox moves b m' scratch' outbox' moves' =
    Ensured (balanced viewers (length moves / 3) m o scratch outbox) scratch moves b m' scratch' outbox' moves'
