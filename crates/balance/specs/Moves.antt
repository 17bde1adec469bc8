-- The next move by places: which volumes may go, counts and surpluses of a mesh in memory, and the moves of one donor. Assumes nothing.
use Rattle.std.specs.Prelude.{◌≡◌, Bool, true, false, cond, ◌&&◌, List, [], ◌∷◌, map, ◌⊎◌, ℕ, ◌-◌, ◌≤◌, ◌<◌, min, leb, ltb, eqb, length, get_or, drop, ℤ, pos, None, Option, Some}
use Rattle.std.proofs.Math.IntN.{sub_ℕ}
use Rattle.model.specs.Lists.{keep, tab, concat_map, first_no}
use Rattle.model.specs.Values.{Block, limits_in, message_darts}
use Rattle.model.specs.Sound.{block_at, volume_limit}
use Rattle.model.specs.Image.{column, count_in, block_in, holds_block}
use Rattle.model.specs.Departure.{departure_checks}
use Rattle.model.specs.Balance.{Oracle, Move, NextMove, move, blocked, picked, counts, recipients, can_move}
use Rattle.cells.specs.Places.{Clear}
use Rattle.mesh.specs.Parts.{block_count, part}

-- 10 to 14 of the volume of the dart with this serial: they do not depend on the destination
unfoldable pub can_leave : List ℕ → ℕ → Bool
can_leave m s = eqb (first_no (drop 1 (departure_checks message_darts (block_in m) 0 s))) 0

-- the arrays that questions 9 to 14 of a block of n darts are asked with: nothing is marked, and the others may hold anything
pub record Asking (n : ℕ) (marks order starts seen numbers firsts colours : List ℕ) : Type 0 where
  pub marks_size : n ≤ length marks
  pub unmarked : Clear marks
  pub order_size : n ≤ length order
  pub starts_size : n ≤ length starts
  pub seen_size : n ≤ length seen
  pub unseen : Clear seen
  pub numbers_size : n ≤ length numbers
  pub firsts_size : n ≤ length firsts
  pub colours_size : message_darts ≤ length colours

-- of a place, by the size of the picked volume that it starts: there is one, it is at most `left`, and it may leave
abbrev pub fits : (ℕ → ℕ) → (ℕ → Bool) → ℕ → ℕ → Bool
fits size leaves left p = ltb 0 (size p) && leb (size p) left && leaves p

-- sizes of which some are struck off, of volumes that may not leave
pub record Untried (size : ℕ → ℕ) (leaves : ℕ → Bool) (n : ℕ) (sizes : List ℕ) : Type 0 where
  pub len : n ≤ length sizes
  pub entry : (p : ℕ) → p < n → (get_or sizes p 0 ≡ size p) ⊎ ((get_or sizes p 0 ≡ 0) × (leaves p ≡ false))

-- of a block
abbrev pub leaves_at : List ℕ → ℕ → Bool
leaves_at m p = can_leave m (column m 0 p)

abbrev pub UntriedIn : (ℕ → ℕ) → List ℕ → List ℕ → Type 0
UntriedIn size m sizes = Untried size (leaves_at m) (get_or m 2 0) sizes

-- the serials of a block's volumes of these sizes that may go where there is room for `left` darts, ascending
unfoldable pub going : (ℕ → ℕ) → List ℕ → ℕ → List ℕ
going size m left = map (column m 0) (keep (fits size (leaves_at m) left) (tab (λ p. p) (get_or m 2 0)))

-- the first of them
abbrev pub candidate_of : List ℕ → Option ℕ
candidate_of [] = None
candidate_of (s ∷ l) = Some s

-- a table as a function
abbrev pub at : List ℕ → ℕ → ℕ
at sizes p = get_or sizes p 0

-- one to 16 sound blocks in memory, numbered in order
pub record SoundParts (mesh : List ℕ) : Type 0 where
  pub some : 1 ≤ block_count mesh
  pub few : block_count mesh ≤ 16
  pub image : (i : ℕ) → i < block_count mesh → holds_block (part mesh i) ≡ true
  pub number : (i : ℕ) → i < block_count mesh → get_or (part mesh i) 0 0 ≡ i

-- the model's blocks
abbrev pub mesh_in : List ℕ → List Block
mesh_in mesh = tab (λ i. block_in (part mesh i)) (block_count mesh)

-- how many volumes of block i are picked
abbrev pub count_at : Oracle → List ℕ → ℕ → ℕ
count_at o mesh i = length (picked o (block_in (part mesh i)).darts)

-- these counts in a table
pub record CellsCounted (o : Oracle) (mesh cs : List ℕ) : Type 0 where
  pub size : length cs ≡ 16
  pub entry : (i : ℕ) → i < block_count mesh → get_or cs i 0 ≡ count_at o mesh i

-- the least of the first k numbers of a table
pub record Least (cs : List ℕ) (k low : ℕ) : Type 0 where
  pub not_above : (i : ℕ) → i < k → low ≤ get_or cs i 0
  pub place : ℕ
  pub below : place < k
  pub there : get_or cs place 0 ≡ low

-- the surplus of block i, by counts of k blocks and their mean; 0 behind them
abbrev pub surplus_by : List ℕ → ℕ → ℕ → ℕ → ℤ
surplus_by cs k mean i = cond (ltb i k) (sub_ℕ (get_or cs i 0) mean) (pos 0)

-- how many volumes of block i are picked, in the model's list
abbrev pub picked_count : Oracle → List ℕ → ℕ → ℕ
picked_count o mesh i = get_or (counts o (mesh_in mesh)) i 0

-- how many darts a volume may have that goes from block d to block r: 11 reads the limits of both, 21 what is left of the room
abbrev pub left_for : ℕ → List ℕ → ℕ → ℕ → ℕ
left_for viewers mesh d r = min (volume_limit (limits_in viewers) d r) ((limits_in viewers r).block_darts - count_in (part mesh r))

-- the moves from block d to block r
abbrev pub moves_between : ℕ → Oracle → List ℕ → ℕ → ℕ → List Move
moves_between viewers o mesh d r =
    keep (can_move (limits_in viewers) (mesh_in mesh)) (map (λ s. record { donor = d; recipient = r; serial = s }) (picked o (block_at (mesh_in mesh) d).darts))

-- from block d to any that it may give to
abbrev pub moves_from : ℕ → Oracle → List ℕ → ℕ → List Move
moves_from viewers o mesh d = concat_map (moves_between viewers o mesh d) (recipients (counts o (mesh_in mesh)) (picked_count o mesh d))

abbrev pub all_moves : ℕ → Oracle → List ℕ → List Move
all_moves viewers o mesh = concat_map (moves_from viewers o mesh) (tab (λ b. b) (length (counts o (mesh_in mesh))))

-- what was found of block d: a move, or none and so blocked
abbrev pub move_found : ℕ → Option (ℕ × ℕ) → NextMove
move_found d (Some (r, s)) = move (record { donor = d; recipient = r; serial = s })
move_found d None = blocked
