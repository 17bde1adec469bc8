-- Which block gives: the oracle, the surpluses, and the next move. Assumes nothing.
use Rattle.std.specs.Prelude.{Bool, true, cond, not, ◌&&◌, List, [], ◌∷◌, map, ℕ, zero, suc, ◌+◌, ◌*◌, ◌-◌, ◌/◌, leb, eqb, length, get_or, ℤ, pos}
use Rattle.std.proofs.Math.Option.{Option, none, some}
use Rattle.std.proofs.Math.IntN.{sub_ℕ}
use Rattle.std.specs.Float.{binary64}
use Rattle.std.specs.Float.Ieee.{of_bits, lt, le}
use Rattle.model.specs.Lists.{all, any, keep, sum, tab, concat_map, first_no}
use Rattle.model.specs.Values.{blocks, Point, Dart, Block, Limits, finite_bits, finite}
use Rattle.model.specs.Cells.{dart_at, volume_in, volume_starts}
use Rattle.model.specs.Sound.{block_at, volume_limit}
use Rattle.model.specs.Departure.{departure_checks}

-- "The oracle picks volumes: every volume, a box of two points, or a plane given by an axis and a value"
pub data Oracle : Type 0 where
  every : Oracle
  box : Point → Point → Oracle
  plane : ℕ → ℕ → Oracle

-- floats are compared as numbers: −0 equals 0
unfoldable pub lt_bits : ℕ → ℕ → Bool
lt_bits a b = lt (of_bits binary64 a) (of_bits binary64 b)

unfoldable pub le_bits : ℕ → ℕ → Bool
le_bits a b = le (of_bits binary64 a) (of_bits binary64 b)

unfoldable pub le_point : Point → Point → Bool
le_point p q = le_bits p.x q.x && le_bits p.y q.y && le_bits p.z q.z

abbrev pub coordinate_of : ℕ → Point → ℕ
coordinate_of zero p = p.x
coordinate_of (suc zero) p = p.y
coordinate_of (suc (suc a)) p = p.z

-- 28: "Oracle floats finite, box low not above high, axis 0 to 2"
unfoldable pub oracle_right : Oracle → Bool
oracle_right every = true
oracle_right (box low high) = finite low && finite high && le_point low high
oracle_right (plane axis value) = finite_bits value && leb axis 2

-- by the points of a volume's vertices. "Box: some vertex within, edges included. Plane: one vertex strictly below and one strictly
-- above"
unfoldable pub picks : Oracle → List Point → Bool
picks every ps = true
picks (box low high) ps = any (λ p. le_point low p && le_point p high) ps
picks (plane axis value) ps = any (λ p. lt_bits (coordinate_of axis p) value) ps && any (λ p. lt_bits value (coordinate_of axis p)) ps

-- the picked volumes of a block, by least serial
unfoldable pub picked : Oracle → List Dart → List ℕ
picked o ds = keep (λ s. picks o (map (λ x. (dart_at ds x).point) (volume_in ds s))) (volume_starts ds)

-- SURPLUSES
unfoldable pub counts : Oracle → List Block → List ℕ
counts o m = map (λ b. length (picked o b.darts)) m

-- "The mean is the picked total over k, rounded down"
unfoldable pub mean : List ℕ → ℕ
mean cs = sum cs / length cs

-- "A block's surplus is its count less the mean, below zero for a block in deficit"
unfoldable pub surpluses : List ℕ → List ℤ
surpluses cs = map (λ c. sub_ℕ c (mean cs)) cs

-- "The sum of the squared counts"
unfoldable pub squared_counts : Oracle → List Block → ℕ
squared_counts o m = sum (map (λ c. c * c) (counts o m))

-- how many more each block has than each other one, summed up; a run of moves has at most half as many
unfoldable pub differences : Oracle → List Block → ℕ
differences o m = let cs = counts o m in sum (map (λ c. sum (map (λ d. c - d) cs)) cs)

-- THE NEXT MOVE
pub record Move : Type 0 where
  pub donor : ℕ
  pub recipient : ℕ
  pub serial : ℕ

-- the answer
pub data NextMove : Type 0 where
  level : NextMove
  blocked : NextMove
  move : Move → NextMove

-- "a donor must have at least two picked volumes more than the recipient", by their counts
abbrev pub may_give : ℕ → ℕ → Bool
may_give donor recipient = leb (recipient + 2) donor

-- the blocks that a block with so many may give to, ascending
abbrev pub recipients : List ℕ → ℕ → List ℕ
recipients cs c = keep (λ r. may_give c (get_or cs r 0)) (tab (λ b. b) (length cs))

-- the volumes picked, in ascending order of (donor, recipient, least serial)
unfoldable pub candidates : Oracle → List Block → List ℕ → List Move
candidates o m cs = concat_map (λ d. concat_map (λ r. map (λ s. record { donor = d; recipient = r; serial = s }) (picked o (block_at m d).darts))
    (recipients cs (get_or cs d 0))) (tab (λ b. b) (length cs))

-- "questions 9 to 14 and 21 answered yes"; "64 for a round into or out of" a viewer, "and 256 into it"
unfoldable pub can_move : (ℕ → Limits) → List Block → Move → Bool
can_move lims m t =
    let d = t.donor in
    let r = t.recipient in
    let leaving = block_at m d in
    eqb (first_no (departure_checks (volume_limit lims d r) leaving r t.serial)) 0
    && leb (length (block_at m r).darts + length (volume_in leaving.darts t.serial)) (lims r).block_darts

abbrev pub first_or : NextMove → List Move → NextMove
first_or other [] = other
first_or other (t ∷ ts) = move t

-- "'Level' means that no two counts differ by two or more"
unfoldable pub is_level : List ℕ → Bool
is_level cs = all (λ c. all (λ d. not (may_give c d)) cs) cs

-- "the least triple is chosen"; otherwise 'level', or else 'blocked'
unfoldable pub next_of : (ℕ → Limits) → Oracle → List Block → NextMove
next_of lims o m =
    let cs = counts o m in
    first_or (cond (is_level cs) level blocked) (keep (can_move lims m) (candidates o m cs))

-- "The next move's answer carries the mean and each block's surplus beside it": sixteen, 0 for a block that the mesh has not
pub record Balance : Type 0 where
  pub next : NextMove
  pub mean : ℕ
  pub surplus : List ℤ

unfoldable pub balance_of : (ℕ → Limits) → Oracle → List Block → Balance
balance_of lims o m =
    let cs = counts o m in
    record { next = next_of lims o m; mean = mean cs; surplus = tab (λ b. get_or (surpluses cs) b (pos 0)) blocks }

-- THE ORACLE BY NUMBERS, as C gives it: 0 every volume, 1 the box from low to high, 2 the plane on an axis at low's x; there is no other
unfoldable pub numbered_oracle : ℕ → ℕ → Point → Point → Option Oracle
numbered_oracle zero axis low high = some every
numbered_oracle (suc zero) axis low high = some (box low high)
numbered_oracle (suc (suc zero)) axis low high = some (plane axis low.x)
numbered_oracle (suc (suc (suc n))) axis low high = none
