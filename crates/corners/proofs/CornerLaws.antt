-- Sums of points along a list, and the corners of a cell by place. Assumes nothing.
use Rattle.std.specs.Prelude.{None, Some}
use Rattle.std.proofs.Common.{◌≡◌, ℕ, ◌+◌, ◌<◌, true, false, List, [], ◌∷◌, ◌++◌, map, length, get_or, take, sym, refl, ap, ◌∙◌, add-one, length-take-le, take-suc}
use lib.ListN.{length-map}
use Rattle.model.specs.Values.{Point as Patterns}
use Rattle.model.specs.Cells.{faces, held}
use Rattle.model.specs.Image.{column, dart_in, block_in, holds_block}
use Rattle.model.specs.Messages.{Transfer}
use Rattle.model.specs.Departure.{transfer_of}
use Rattle.memory.specs.declared.point.Point.{Point}
use Rattle.memory.specs.Point.{point_of}
use Rattle.cells.specs.Places.{InOrder, Marked, Numbered, marked, volume_of}
use Rattle.cells.proofs.Sited.{sited}
use Rattle.cells.proofs.VolumeReady.{ends_ready}
use Rattle.columns.proofs.Question.{image_passed}
use Rattle.departure.specs.ByPlaces.{transfer_at}
use Rattle.departure.proofs.LeavesWith.{transfer_law}
use Rattle.corners.specs.Corners.{corner_points, plus_point, over_number, sum_from, sum_of, mean_of, mean_in, Cornered}

-- ONE MORE at the end of a sum
sum_more : (f : ℕ → Patterns) (s : Point) (l : List ℕ) (x : ℕ) → sum_from s (map f (l ++ x ∷ [])) ≡ plus_point (sum_from s (map f l)) (point_of (f x).x (f x).y (f x).z)
unfolding sum_from
sum_more f s [] x = refl
sum_more f s (y ∷ l) x = sum_more f (plus_point s (point_of (f y).x (f y).y (f y).z)) l x

pub sum_next : (f : ℕ → Patterns) (l : List ℕ) (i : ℕ) → i < length l → {s p r : Point}
    → s ≡ sum_of (map f (take i l)) → p ≡ point_of (f (get_or l i 0)).x (f (get_or l i 0)).y (f (get_or l i 0)).z → r ≡ plus_point s p → r ≡ sum_of (map f (take (i + 1) l))
sum_next f l i h {s} {p} {r} e q t =
    let more : take (i + 1) l ≡ take i l ++ get_or l i 0 ∷ [] = ap (λ (k : ℕ). take k l) (add-one i) ∙ take-suc l i 0 h in
    t ∙ ap (λ (a : Point). plus_point a p) e ∙ ap (λ (b : Point). plus_point (sum_of (map f (take i l))) b) q
    ∙ sym (sum_more f (point_of 0 0 0) (take i l) (get_or l i 0)) ∙ ap (λ (k : List ℕ). sum_of (map f k)) (sym more)

pub sum_none : (f : ℕ → Patterns) (l : List ℕ) → point_of 0 0 0 ≡ sum_of (map f (take 0 l))
unfolding sum_from
sum_none f l = refl

-- THE CORNERS of the cell of the dart at place p, from its darts in message order and its vertices
pub cornered : (m : List ℕ) → holds_block m ≡ true → (p : ℕ) → p < get_or m 2 0 → {marks : List ℕ} → Marked (volume_of m p) marks
    → {out starts : List ℕ} {darts count : ℕ} → InOrder (faces (column m 1) (marked (get_or m 2 0) marks)) out starts darts count
    → {numbers firsts : List ℕ} {vs : ℕ} → Numbered (column m 1) (column m 2) (take darts out) numbers firsts vs → Cornered m p firsts vs
unfolding transfer_of transfer_at corner_points
cornered m ok p h mk {out} {starts} {darts} o nb =
    let linked = (sited m ok).linked in
    let ended = ends_ready linked h mk o nb in
    record {
      size = nb.firsts_size;
      few = ended.count_few;
      below = ended.first_below;
      points = ap (λ (t : Transfer). t.points) (transfer_law (sited m ok) (image_passed m ok) p h mk o nb 0);
    }

-- THE MEAN
pub mean_there : (m : List ℕ) (s : ℕ) → holds_block m ≡ true → held (block_in m).darts s ≡ true → {p : ℕ} → column m 0 p ≡ s
    → {firsts : List ℕ} {count : ℕ} → Cornered m p firsts count → {a r : Point} → a ≡ sum_of (map (λ q. (dart_in m q).point) (take count firsts)) → r ≡ over_number a count
    → Some r ≡ mean_in m s
unfolding mean_in mean_of
mean_there m s ok there {p} here {firsts} {count} c {a} {r} e t =
    let ps : corner_points (block_in m).darts s ≡ map (λ q. (dart_in m q).point) (take count firsts) = ap (corner_points (block_in m).darts) (sym here) ∙ c.points in
    let long : length (corner_points (block_in m).darts s) ≡ count =
    ap length ps ∙ length-map (take count firsts) (λ q. (dart_in m q).point) ∙ length-take-le count firsts c.size in
    let q : r ≡ over_number (sum_of (corner_points (block_in m).darts s)) (length (corner_points (block_in m).darts s)) =
    t ∙ ap (λ (x : Point). over_number x count) (e ∙ ap sum_of (sym ps)) ∙ ap (over_number (sum_of (corner_points (block_in m).darts s))) (sym long) in
    rw (ok, there) (ap Some q)

pub mean_unsound : (m : List ℕ) (s : ℕ) → holds_block m ≡ false → None ≡ mean_in m s
unfolding mean_in
mean_unsound m s e = rw e

pub mean_nowhere : (m : List ℕ) (s : ℕ) → holds_block m ≡ true → held (block_in m).darts s ≡ false → None ≡ mean_in m s
unfolding mean_in
mean_nowhere m s ok e = rw (ok, e)
