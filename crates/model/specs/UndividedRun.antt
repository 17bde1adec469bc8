-- The undivided run: the whole map of a mesh, a block number for each cell, a count for each block. Assumes nothing.
use Rattle.std.specs.Prelude.{Bool, cond, not, ◌&&◌, List, [], ◌∷◌, ◌++◌, ℕ, ◌+◌, leb, ltb, eqb, length}
use Rattle.std.proofs.Math.Option.{Option, none, some, map}
use Rattle.model.specs.Lists.{all, keep, mem, find, sorted, first_no, Check}
use Rattle.model.specs.Values.{number_bound, Point, Label, Third, free, sewn, critical, Dart, Block, Limits, no_point, has_label}
use Rattle.model.specs.Cells.{volume, faces, start_of, held, serials}
use Rattle.model.specs.Sound.{block_at, all_darts, volume_limit}
use Rattle.model.specs.Links.{pairs_once, vertex_pairs}
use Rattle.model.specs.Runs.{Request, Outcome, refused_by, finished}

-- THE WHOLE MAP: "all its darts with next, opposite and point". `third` is 0 where there is no third link
pub record Whole : Type 0 where
  pub next : ℕ
  pub opposite : ℕ
  pub third : ℕ
  pub point : Point

-- "the other dart with its label"
unfoldable pub other_with : Label → ℕ → List Dart → ℕ
other_with l x [] = 0
other_with l x (d ∷ ds) = cond (has_label l d.third && not (eqb d.serial x)) d.serial (other_with l x ds)

-- "A free dart has no third link there, a sewn dart's is the dart it is sewn to, a critical dart's the other dart with its label"
abbrev pub third_of : List Block → ℕ → Third → ℕ
third_of m x free = 0
third_of m x (sewn y) = y
third_of m x (critical o l) = other_with l x (all_darts m)

unfoldable pub whole_map : List Block → ℕ → Option Whole
whole_map m x = map (λ d. record { next = d.next; opposite = d.opposite; third = third_of m x d.third; point = d.point })
    (find (λ d. d.serial) x (all_darts m))

-- "A cell is a volume, and its block the one that holds its darts": the number of that block
unfoldable pub holder : List Block → ℕ → ℕ
holder [] x = 0
holder (b ∷ m) x = cond (held b.darts x) b.number (holder m x)

-- THE UNDIVIDED RUN. "Its state: that mesh's whole map" (its serials, ascending, and what each has), "a block number for each cell", read
-- off any of its darts, "and a count for each block"
pub record State : Type 0 where
  pub darts : List ℕ
  pub links : ℕ → Option Whole
  pub number : ℕ → ℕ
  pub count : ℕ → ℕ

-- "at first its block's" and "at first its counter"
unfoldable pub start : List Block → State
start m = record { darts = sorted (serials (all_darts m)); links = whole_map m; number = holder m; count = λ b. (block_at m b).counter }

abbrev pub or_nothing : Option Whole → Whole
or_nothing none = record { next = 0; opposite = 0; third = 0; point = no_point }
or_nothing (some w) = w

abbrev pub nx : State → ℕ → ℕ
nx u x = (or_nothing (u.links x)).next

abbrev pub op : State → ℕ → ℕ
op u x = (or_nothing (u.links x)).opposite

abbrev pub th : State → ℕ → ℕ
th u x = (or_nothing (u.links x)).third

-- the cell of a dart, ascending
unfoldable pub cell : State → ℕ → List ℕ
cell u s = let v = volume (nx u) (op u) s in keep (λ x. mem x v) u.darts

-- "g being how many of the cell's faces have third links to other cells numbered i"
unfoldable pub inner_faces : State → ℕ → List ℕ → ℕ
inner_faces u i v = length (keep (λ f. let y = th u (start_of f) in not (eqb y 0) && not (mem y v) && eqb (u.number y) i) (faces (nx u) v))

-- 9 to 14, of a cell of at most `most` darts
abbrev pub leaving_checks : ℕ → State → Request → List Check
leaving_checks most u r =
    let i = r.from in
    let v = cell u r.serial in
    (9, not (eqb r.to i)) ∷ (10, mem r.serial u.darts && eqb (u.number r.serial) i) ∷ (11, leb (length v) most)
    ∷ (12, all (λ x. not (mem (th u x) v)) v)
    ∷ (13, pairs_once (vertex_pairs (nx u) (op u) v))
    ∷ (14, ltb (u.count i + inner_faces u i v) number_bound) ∷ []

-- 21: "Have the cells numbered j, with this one, at most 4,096 darts?", a viewer's 256
abbrev pub has_room : (ℕ → Limits) → State → Request → Bool
has_room lims u r = leb (length (keep (λ x. eqb (u.number x) r.to) u.darts) + length (cell u r.serial)) (lims r.to).block_darts

-- "A request is refused at the first no"
unfoldable pub request_checks : (ℕ → Limits) → State → Request → List Check
request_checks lims u r = leaving_checks (volume_limit lims r.from r.to) u r ++ (21, has_room lims u r) ∷ []

-- "Any other makes the cell's number j and adds g to i's count; all else stays"
unfoldable pub after_move : State → Request → State
after_move u r =
    let v = cell u r.serial in
    let g = inner_faces u r.from v in
    record {
      darts = u.darts;
      links = u.links;
      number = λ x. cond (mem x v) r.to (u.number x);
      count = λ b. cond (eqb b r.from) (u.count b + g) (u.count b);
    }

pub record Undivided : Type 0 where
  pub outcome : Outcome
  pub state : State

-- "A refused request changes nothing"
unfoldable pub undivided : (ℕ → Limits) → State → Request → Undivided
undivided lims u r =
    let n = first_no (request_checks lims u r) in
    let moved : Undivided = record { outcome = finished; state = after_move u r } in
    cond (eqb n 0) moved (record { outcome = refused_by n; state = u })

-- THE QUESTIONS OF A ROUND, told of the same state: send reads its own block's limits in 11, and receive the limits of its block in 29
unfoldable pub round_checks : (ℕ → Limits) → State → Request → List Check
round_checks lims u r = leaving_checks (lims r.from).volume_darts u r
    ++ (29, leb (length (cell u r.serial)) (lims r.to).volume_darts) ∷ (21, has_room lims u r) ∷ []
