-- Question 18 by index. Assumes nothing.
use Rattle.std.specs.Prelude.{None, Option, Some}
use mathlib.Core.Path.{◌≡◌, refl, sym, ◌∙◌, ap, subst}
use mathlib.Core.Bool.{Bool, true, false, true≢false, not, ◌&&◌}
use mathlib.Core.List.{List}
use mathlib.Core.Logic.{⊎_elim}
use Prim.Native.Nat.{ℕ, ◌+◌, ◌-◌, ◌*◌, ◌≤◌, ◌<◌}
use native.Mathlib.Nat.{eq-or-lt_of_le}
use native.Mathlib.Omega.{arith}
use lib.Dec.{leb}
use lib.ListN.{length, get_or, take}
use lib.Seq.{get_or-take, length-take-le, ext_get_or}
use borrow.Author.Tests.{le-leb, lt-leb}
use Rattle.laws.specs.Order.{Ascending}
use Rattle.model.specs.Lists.{all, tab, distinct}
use Rattle.model.specs.Values.{Dart, finite, finite_bits}
use Rattle.model.specs.Cells.{held}
use Rattle.model.specs.Image.{column, block_in}
use Rattle.model.specs.Messages.{Transfer}
use Rattle.model.specs.Arrival.{Side, sides, serials_new}
use Rattle.laws.proofs.Tests.{lt_or_ge, and_left, and_right}
use Rattle.laws.proofs.Tables.{length_tab, getD_tab, map_tab, all_tab}
use Rattle.memory.specs.Lookup.{place_in}
use Rattle.memory.specs.declared.record.Place.{Place}
use Rattle.memory.proofs.Lookups.{held_at, held_nothing, place_found, place_none}
use Rattle.inbox.specs.Inbox.{word_in, point_in, points_in}
use Rattle.ranking.specs.Ranks.{Ranked}
use Rattle.arrival.specs.Sides.{side_at}
use Rattle.arrival.specs.Draft.{FiniteIn, is_new, GapSaid, GapTold, NewSerials, TransferTold}
use Rattle.arrival.proofs.SideLaws.{sides_are}
use Rattle.arrival.proofs.PairLaws.{all_index}

-- ONE SERIAL
module _ (m : List ℕ) (x : ℕ) where
  pub zero_held : x ≡ 0 → false ≡ (leb 1 x && not (held (block_in m).darts x))
  zero_held e = rw (lt-leb 1 x (omega (arith, e))) refl

  module _ (some_serial : x ≡ 0 → ⊥) where
    positive : leb 1 x ≡ true
    positive = le-leb 1 x (omega (arith, some_serial))

    pub found_held : {n : ℕ} → n ≡ get_or m 2 0 → Ascending n (column m 0) → {p : Place} → place_in (column m 0) n x ≡ Some p → false ≡ (leb 1 x && not (held (block_in m).darts x))
    found_held q a {p} e = rw (positive, held_at m x (subst (λ (k : ℕ). Ascending k (column m 0)) q a) (subst (λ (k : ℕ). place_in (column m 0) k x ≡ Some p) q e)) refl

    pub nothing_held : {n : ℕ} → n ≡ get_or m 2 0 → place_in (column m 0) n x ≡ None → true ≡ (leb 1 x && not (held (block_in m).darts x))
    nothing_held q e = rw (positive, held_nothing m x (subst (λ (k : ℕ). place_in (column m 0) k x ≡ None) q e)) refl

-- IN A GAP of serials that ascend
module _ {n : ℕ} {s : ℕ → ℕ} (a : Ascending n s) where
  up_to : (p q : ℕ) → p ≤ q → q < n → s p ≤ s q
  up_to p q h l = ⊎_elim (λ e. omega (arith, ap s e)) (λ k. omega (arith, a p q k l)) (eq-or-lt_of_le h)

  pub gap_none : {x g : ℕ} → g ≤ n → (0 < g → s (g - 1) < x) → (g < n → x < s g) → (p : ℕ) → p < n → s p ≡ x → ⊥
  gap_none {x} {g} le below above p h e = ⊎_elim
      (λ l. omega (arith, e, below (omega (arith, l)), up_to p (g - 1) (omega (arith, l)) (omega (arith, l, le))))
      (λ l. omega (arith, e, above (omega (arith, l, h)), up_to g p l h))
      (lt_or_ge p g)

-- THE ANSWER OF A SEARCH: how many are below, or not new
module _ (m : List ℕ) {x n : ℕ} where
  pub gap_zero : x ≡ 0 → GapTold m n x None
  gap_zero e = record { said = sym (zero_held m x e) }

  module _ (some_serial : x ≡ 0 → ⊥) (q : n ≡ get_or m 2 0) where
    pub gap_held : Ascending n (column m 0) → {p : ℕ} → p < n → column m 0 p ≡ x → GapTold m n x None
    gap_held a {p} l e = record { said = sym (found_held m x some_serial q a (sym (place_found (column m 0) n x p a l e))) }

    pub gap_new : ((p : ℕ) → p < n → column m 0 p ≡ x → ⊥) → {g : Place} → g.0 ≤ n → GapTold m n x (Some g)
    gap_new never h = record { said = (sym (nothing_held m x some_serial q (sym (place_none (column m 0) n x never))), h) }

-- what it tells
module _ {m : List ℕ} {n x : ℕ} {r : Option Place} (w : GapTold m n x r) where
  pub told_old : r ≡ None → is_new m x ≡ false
  told_old e = subst (GapSaid m n x) e w.said

  pub told_new : {g : Place} → r ≡ Some g → (is_new m x ≡ true) × (g.0 ≤ n)
  told_new e = subst (GapSaid m n x) e w.said

-- THE POINTS, by their number
pub points_tested : (s : List ℕ) (from n : ℕ) → all finite (points_in s from n) ≡ all (λ j. finite (point_in s (from + 24 * j))) (tab (λ j. j) n)
unfolding points_in
points_tested s from n = all_index finite (λ j. point_in s (from + 24 * j)) n

-- a point by its number, where all are finite
pub point_there : (s : List ℕ) (from n : ℕ) → all finite (points_in s from n) ≡ true → (j : ℕ) → j < n → FiniteIn s (from + 24 * j)
unfolding finite
point_there s from n e j h =
    let p = point_in s (from + 24 * j) in
    let a = all_tab (λ j. finite (point_in s (from + 24 * j))) (λ j. j) n (sym (points_tested s from n) ∙ e) j h in
    let b = and_left (finite_bits p.x && finite_bits p.y) (finite_bits p.z) a in
    record {
      on_x = and_left (finite_bits p.x) (finite_bits p.y) b;
      on_y = and_right (finite_bits p.x) (finite_bits p.y) b;
      on_z = and_right (finite_bits p.x && finite_bits p.y) (finite_bits p.z) a;
    }

-- THE WHOLE QUESTION
module _ {ds : List Dart} {s : List ℕ} {from n : ℕ} {x : List ℕ} {k : ℕ} {keys ranks : List ℕ} where
  pub not_finite : all finite (points_in s from n) ≡ false → NewSerials ds s from n x k keys ranks false
  not_finite e = record { is = rw e refl; ranked = λ y. absurd (true≢false (sym y)) }

  pub not_new : all finite (points_in s from n) ≡ true → all (λ i. leb 1 (get_or x i 0) && not (held ds (get_or x i 0))) (tab (λ i. i) k) ≡ false → NewSerials ds s from n x k keys ranks false
  not_new e f = record { is = rw (e, f) refl; ranked = λ y. absurd (true≢false (sym y)) }

  pub new_ranked : {r : Bool} → all finite (points_in s from n) ≡ true
      → all (λ i. leb 1 (get_or x i 0) && not (held ds (get_or x i 0))) (tab (λ i. i) k) ≡ true → r ≡ distinct (take k x)
      → (r ≡ true → Ranked x k keys ranks) → NewSerials ds s from n x k keys ranks r
  new_ranked e f d g = record { is = rw (e, f) d; ranked = g }

  pub finite_told : {r : Bool} → NewSerials ds s from n x k keys ranks r → r ≡ true → all finite (points_in s from n) ≡ true
  finite_told w e = and_left (all finite (points_in s from n)) _ (and_left (all finite (points_in s from n) && new) _ (sym w.is ∙ e))
    where
      new : Bool
      new = all (λ i. leb 1 (get_or x i 0) && not (held ds (get_or x i 0))) (tab (λ i. i) k)

-- of a transfer
pub eighteen_is : {t : Transfer} {v x b z s : List ℕ} {from n k : ℕ} {hollow : Bool} (ds : List Dart) → TransferTold t v x b z s from n k hollow → k ≤ length x
    → serials_new ds t ≡ (all finite (points_in s from n) && all (λ i. leb 1 (get_or x i 0) && not (held ds (get_or x i 0))) (tab (λ i. i) k) && distinct (take k x))
unfolding serials_new points_in word_in finite sides
eighteen_is {t} {v} {x} {b} {z} {s} {from} {n} {k} {hollow} ds w fit =
    rw (
      w.points,
      all_sides,
      all_index (λ (a : Side). leb 1 a.serial && not (held ds a.serial)) (side_at v x b z) k,
      map_tab (λ (a : Side). a.serial) (side_at v x b z) k,
      taken,
    ) refl
  where
    all_sides : sides t ≡ tab (side_at v x b z) k
    all_sides = rw w.darts (sides_are v x b z t w.inside)

    taken : tab (λ i. get_or x i 0) k ≡ take k x
    taken =
        ext_get_or 0 _ _ (length_tab (λ i. get_or x i 0) k ∙ sym (length-take-le k x fit))
        (λ i h. let l : i < k = omega (arith, h, length_tab (λ i. get_or x i 0) k) in getD_tab (λ i. get_or x i 0) k i 0 l ∙ sym
        (get_or-take k x i 0 l))
