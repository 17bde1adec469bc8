-- The model's test of an entry of part 2, by places. Assumes nothing.
use Rattle.memory.proofs.Points.{point_patterns, point_finite}
use Rattle.memory.specs.Point.{point_of, patterns, FinitePoint, FiniteAt}
use Rattle.memory.specs.declared.point.Point.{Point}
use mathlib.Core.Path.{◌≡◌, refl, sym, ◌∙◌, ap}
use mathlib.Core.Bool.{Bool, true, false, ◌&&◌}
use mathlib.Core.List.{List, ◌∷◌}
use Prim.Native.Nat.{ℕ, zero, suc, ◌+◌, ◌*◌, ◌-◌, ◌<◌}
use lib.Dec.{eqb}
use lib.ListN.{length}
use borrow.Author.Tests.{eqb-true}
use Rattle.model.specs.Lists.{all, tab, zip}
use Rattle.model.specs.Values.{Dart, same_point, is_critical_with}
use Rattle.model.specs.Cells.{cycle, dart_at, labelled, previous_in}
use Rattle.model.specs.Image.{count_in, column, dart_in, holds_block}
use Rattle.model.specs.Messages.{Part2, Transfer}
use Rattle.model.specs.Arrival.{new_darts, face_from, points_meet, part2_right}
use Rattle.laws.proofs.Orbits.{iter}
use Rattle.laws.proofs.Tables.{length_tab}
use Rattle.arrival.proofs.PairLaws.{all_index, all_same}
use Rattle.columns.proofs.Question.{image_passed}
use Rattle.cells.proofs.Sited.{sited, dart_is, darts_in}
use Rattle.departure.proofs.LeavingFaces.{critical_is}
use Rattle.parts.specs.Meets.{meet_at}
use Rattle.parts.proofs.Backwards.{met_face}

pub zip_tab : (f g : ℕ → ℕ) (n : ℕ) → zip (tab f n) (tab g n) ≡ tab (λ j. (f j, g j)) n
zip_tab f g zero = refl
zip_tab f g (suc n) = ap (λ (l : List (ℕ × ℕ)). (f 0, g 0) ∷ l) (zip_tab (λ j. f (suc j)) (λ j. g (suc j)) n)

module _ (m d : List ℕ) (t : Transfer) (ok : holds_block m ≡ true)
    (new_at : (p : ℕ) → p < count_in d → dart_at (new_darts t) (column d 0 p) ≡ dart_in d p)
    (new_next : (p : ℕ) → p < count_in d → column d 1 p < count_in d) where
  pub meet_is : (p w : ℕ) → p < count_in d → w < count_in m → points_meet (darts_in m) t (column d 0 p) (column m 0 w) ≡ meet_at m d p w
  unfolding points_meet
  meet_is p w hp hw =
      four (new_at p hp)
      (ap (λ (e : Dart). dart_at (darts_in m) e.next) (dart_is m ok w hw)
      ∙ dart_is m ok (column m 1 w) ((sited m ok).linked.next_within w hw)) (dart_is m ok w hw)
      (ap (λ (e : Dart). dart_at (new_darts t) e.next) (new_at p hp) ∙ new_at (column d 1 p) (new_next p hp))
    where
      four : {a b c e a' b' c' e' : Dart} → a ≡ a' → b ≡ b' → c ≡ c' → e ≡ e'
          → (same_point a.point b.point && same_point c.point e.point)
          ≡ (same_point a'.point b'.point && same_point c'.point e'.point)
      four p q r u = rw (p, q, r, u) refl

  steps_below : (k y : ℕ) → y < count_in m → iter (column m 1) k y < count_in m
  steps_below zero y h = h
  steps_below (suc k) y h = steps_below k (column m 1 y) ((sited m ok).linked.next_within y h)

  -- an entry whose label the dart at place y has: its face of n darts, at places `at` of the draft
  pub part2_is : (e : Part2) (at : ℕ → ℕ) (n y : ℕ) → face_from t e.index ≡ tab (λ j. column d 0 (at j)) n
      → ((j : ℕ) → j < n → at j < count_in d) → y < count_in m → labelled e.label (darts_in m) ≡ dart_in m y
      → part2_right (darts_in m) t e
      ≡ (eqb (column m 3 y) (2 + 4 * t.from) && eqb n (length (cycle (column m 1) y)) && all (λ j. meet_at m d (at j) (iter (column m 1) (length (cycle (column m 1) y) - j) y)) (tab (λ j. j) n))
  unfolding part2_right
  part2_is e at n y face below hy found =
      ap
      (λ (h : Dart). is_critical_with t.from h.third && eqb (length (face_from t e.index))
      (length (cycle (previous_in (darts_in m)) h.serial)) && all (λ p. points_meet (darts_in m) t p.0 p.1)
      (zip (face_from t e.index) (cycle (previous_in (darts_in m)) h.serial))) found
      ∙ ap
      (λ (f : List ℕ). is_critical_with t.from (dart_in m y).third && eqb (length f)
      (length (cycle (previous_in (darts_in m)) (column m 0 y))) && all (λ p. points_meet (darts_in m) t p.0 p.1)
      (zip f (cycle (previous_in (darts_in m)) (column m 0 y)))) face
      ∙ ap
      (λ (g : List ℕ). is_critical_with t.from (dart_in m y).third && eqb (length (tab (λ j. column d 0 (at j)) n)) (length g)
      && all (λ p. points_meet (darts_in m) t p.0 p.1) (zip (tab (λ j. column d 0 (at j)) n) g)) (met_face m ok y hy)
      ∙ three (critical_is (column m 0) (column m 3 y) (column m 4 y) t.from ((image_passed m ok).range.kinds y hy))
      (sizes (length_tab (λ j. column d 0 (at j)) n) (length_tab (λ j. column m 0 (iter (column m 1) (size - j) y)) size))
      (λ same. meets same)
    where
      size : ℕ
      size = length (cycle (column m 1) y)

      sizes : {a b c f : ℕ} → a ≡ c → b ≡ f → eqb a b ≡ eqb c f
      sizes p q = rw (p, q) refl

      last : (b f g h : Bool) → (f ≡ true → g ≡ h) → (b && f && g) ≡ (b && f && h)
      last b true g h r = ap (λ (v : Bool). b && true && v) (r refl)
      last true false g h r = refl
      last false false g h r = refl

      -- points are looked at only where the sizes are one
      three : {a b c f : Bool} {g h : Bool} → a ≡ b → c ≡ f → (f ≡ true → g ≡ h) → (a && c && g) ≡ (b && f && h)
      three {a} {b} {c} {f} {g} {h} p q r = ap (λ (v : Bool). v && c && g) p ∙ ap (λ (v : Bool). b && v && g) q ∙ last b f g h r

      meets : eqb n size ≡ true
          → all (λ p. points_meet (darts_in m) t p.0 p.1)
          (zip (tab (λ j. column d 0 (at j)) n) (tab (λ j. column m 0 (iter (column m 1) (size - j) y)) size))
          ≡ all (λ j. meet_at m d (at j) (iter (column m 1) (size - j) y)) (tab (λ j. j) n)
      meets q =
          ap
          (λ (c : ℕ). all (λ p. points_meet (darts_in m) t p.0 p.1)
          (zip (tab (λ j. column d 0 (at j)) n) (tab (λ j. column m 0 (iter (column m 1) (size - j) y)) c)))
          (sym (eqb-true n size q))
          ∙ ap (all (λ p. points_meet (darts_in m) t p.0 p.1)) (zip_tab (λ j. column d 0 (at j)) (λ j. column m 0 (iter (column m 1) (size - j) y)) n)
          ∙ all_index (λ (p : ℕ × ℕ). points_meet (darts_in m) t p.0 p.1) (λ j. (column d 0 (at j), column m 0 (iter (column m 1) (size - j) y))) n
          ∙ all_same _ _ n (λ j h. meet_is (at j) (iter (column m 1) (size - j) y) (below j h) (steps_below (size - j) y hy))

-- points by value
pub points_told : (a b : List ℕ) (p q : ℕ) → FiniteAt a p → FiniteAt b q → {x y : Point} {r : Bool}
    → x ≡ point_of (column a 5 p) (column a 6 p) (column a 7 p) → y ≡ point_of (column b 5 q) (column b 6 q) (column b 7 q)
    → r ≡ same_point (patterns x) (patterns y) → r ≡ same_point (dart_in a p).point (dart_in b q).point
points_told a b p q fp fq ex ey er =
    er
    ∙ rw (
      ex,
      ey,
      point_patterns (column a 5 p) (column a 6 p) (column a 7 p) fp.on_x fp.on_y fp.on_z,
      point_patterns (column b 5 q) (column b 6 q) (column b 7 q) fq.on_x fq.on_y fq.on_z,
    ) refl

pub finite_told : (a : List ℕ) (p : ℕ) → FiniteAt a p → {x : Point} → x ≡ point_of (column a 5 p) (column a 6 p) (column a 7 p) → FinitePoint x
finite_told a p f e = rw e (point_finite (column a 5 p) (column a 6 p) (column a 7 p) f.on_x f.on_y f.on_z)

pub meet_told : (m d : List ℕ) (p w : ℕ) {v q : ℕ} {a b : Bool} → v ≡ column m 1 w → q ≡ column d 1 p
    → a ≡ same_point (dart_in d p).point (dart_in m v).point → b ≡ same_point (dart_in m w).point (dart_in d q).point
    → (a && b) ≡ meet_at m d p w
meet_told m d p w {v} {q} {a} {b} ev eq ea eb =
    two (ea ∙ ap (λ (y : ℕ). same_point (dart_in d p).point (dart_in m y).point) ev)
    (eb ∙ ap (λ (y : ℕ). same_point (dart_in m w).point (dart_in d y).point) eq)
  where
    two : {a b c e : Bool} → a ≡ c → b ≡ e → (a && b) ≡ (c && e)
    two p q = rw (p, q) refl
