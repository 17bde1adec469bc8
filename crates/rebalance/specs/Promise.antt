-- THE PROMISE about `rebalance::balance`: on a sound mesh, some of whose blocks may be viewers', with a zero scratch and an outbox of 65,536 bytes, it ends level or blocked, or is refused
-- by 28 alone, or has no room for another move; that never is with room for half the differences of the counts (at most 65,536 moves). Each move
-- lowers these, and the sum of the squared counts, by two at least. The mesh stays sound and keeps its whole map, at level no two counts differ
-- by two or more, and the moves that it writes give the same mesh when they are played as requests. Assumes nothing.
use Rattle.std.specs.Prelude.{◌≡◌, Bool, true, false, not, ◌&&◌, List, map, ℕ, ◌+◌, ◌*◌, ◌/◌, ◌≤◌, eqb, length, take}
use Rattle.model.specs.Lists.{all, concat}
use Rattle.model.specs.Values.{Block, limits_in}
use Rattle.model.specs.Sound.{Sound}
use Rattle.model.specs.Image.{words, image, memory_of}
use Rattle.model.specs.Balance.{Oracle, oracle_right, counts, squared_counts, differences, is_level, Move}
use Rattle.model.specs.Calls.{scratch_entries}
use Rattle.model.specs.Runs.{Request, finished}
use Rattle.model.specs.UndividedRun.{whole_map}
use Rattle.model.specs.Demands.{outbox_bytes}
use Rattle.rounds.specs.Played.{asks_for}
use Rattle.rounds.specs.Requests as list
use Rattle.rounds.specs.Requests.{requests_in}
use Rattle.rebalance.specs.Turn.{asked_next}
use Rattle.rebalance.specs.Balanced.{Stop, level, blocked, full, unfinished, refused_by, BalancingRun, balanced, stop_by, stop_of, count_of, Balances}
use Rattle.rebalance.specs.declared.moves.Balanced.{Balanced}

-- level, blocked or full; 28 where the oracle is not right
abbrev pub ends_well : Oracle → Stop → Bool
ends_well o level = oracle_right o
ends_well o blocked = oracle_right o
ends_well o full = oracle_right o
ends_well o unfinished = false
ends_well o (refused_by n) = not (oracle_right o) && eqb n 28

-- the request of a move
abbrev pub as_request : Move → Request
as_request t = asks_for t.donor t.recipient t.serial

-- how balancing with room for n moves ends, after so many, and leaves these blocks
pub record EndedAs (viewers n : ℕ) (bs : List Block) (o : Oracle) (stop : Stop) (count : ℕ) (after : List Block) : Type 0 where
  pub ends : ends_well o stop ≡ true
  -- no room is left, and the differences would have allowed a move more
  pub full_means : stop ≡ full → (count ≡ n) × (n * 2 + 2 ≤ differences o bs)
  pub level_means : stop ≡ level → is_level (counts o after) ≡ true
  pub differences_fall : count * 2 + differences o after ≤ differences o bs
  pub squares_fall : count * 2 + squared_counts o after ≤ squared_counts o bs
  pub sound : Sound (limits_in viewers) after
  -- no link and no point is changed
  pub same_map : (x : ℕ) → whole_map after x ≡ whole_map bs x

-- a sound mesh after balancing
pub record Levels (viewers n : ℕ) (bs : List Block) (o : Oracle) (scratch outbox : List ℕ) (r : BalancingRun) : Type 0 where
  pub after : List Block
  pub ended : EndedAs viewers n bs o r.stop (length r.moves) after
  -- there is no move left, or no room for it
  pub last : r.stop ≡ stop_by (asked_next viewers r.mesh o scratch)
  pub mesh_is : r.mesh ≡ concat (map (image words) after)
  -- the moves are requests that all finish, and leave the same
  pub outcomes_again : (list.played_run viewers (map (memory_of (limits_in viewers)) bs) outbox (map as_request r.moves)).outcomes ≡ map (λ t. finished) r.moves
  pub memories_again : (list.played_run viewers (map (memory_of (limits_in viewers)) bs) outbox (map as_request r.moves)).memories ≡ map (memory_of (limits_in viewers)) after

-- what is lent beside the mesh
pub record Lent (scratch outbox : List ℕ) : Type 0 where
  pub entries : length scratch ≡ scratch_entries
  pub zeros : all (eqb 0) scratch ≡ true
  pub long : outbox_bytes ≤ length outbox

abbrev pub EndsWell : Type 0
EndsWell = (viewers n : ℕ) (bs : List Block) (o : Oracle) (scratch outbox : List ℕ) → Sound (limits_in viewers) bs → Lent scratch outbox
    → Levels viewers n bs o scratch outbox (balanced viewers n (concat (map (image words) bs)) o scratch outbox)

-- what `balance` leaves of a mesh, answers and writes as moves
pub record BalancingKept (viewers n : ℕ) (bs : List Block) (o : Oracle) (outbox : List ℕ) (b : Balanced) (m' moves' : List ℕ) : Type 0 where
  pub after : List Block
  pub ended : EndedAs viewers n bs o (stop_of b) (count_of b) after
  pub mesh_is : m' ≡ concat (map (image words) after)
  pub played_again : (list.played_run viewers (map (memory_of (limits_in viewers)) bs) outbox (take (count_of b) (requests_in moves'))).memories ≡ map (memory_of (limits_in viewers)) after

abbrev pub BalancingPromise : Type 0
BalancingPromise = (viewers : ℕ) (bs : List Block) (o : Oracle) (m scratch outbox moves : List ℕ) (b : Balanced) (m' scratch' outbox' moves' : List ℕ) → Sound (limits_in viewers) bs → m ≡ concat (map (image words) bs)
    → Lent scratch outbox → Balances viewers m o scratch outbox moves b m' scratch' outbox' moves' → BalancingKept viewers (length moves / 3) bs o outbox b m' moves'
