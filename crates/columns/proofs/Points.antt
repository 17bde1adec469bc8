-- Questions 4 and 8, coordinates and points, by columns. Assumes nothing.
use mathlib.Core.Path.{◌≡◌, refl, ap, ◌∙◌}
use mathlib.Core.Bool.{Bool, ◌&&◌}
use mathlib.Core.List.{List}
use Prim.Native.Nat.{ℕ, ◌<◌}
use Rattle.model.specs.Values.{Dart, same_point, finite}
use Rattle.model.specs.Cells.{dart_at, next_in}
use Rattle.model.specs.Sound.{coordinates_finite, sewn_points, points_agree}
use Rattle.model.specs.Image.{column, is_sewn_word, third_in, dart_in}
use Rattle.columns.specs.Columns.{all_below, count, Kind, kind_free, kind_sewn, kind_critical, Ranged, Places, SewnPlaces, same_at, point_test}
use Rattle.columns.proofs.Below.{all_is, all_tests}
use Rattle.columns.proofs.Thirds.{critical_unsewn, third_free, third_sewn, third_critical}
use Rattle.columns.proofs.Held.{darts, dart_is}

-- QUESTION 4
abbrev pub finite_test : List ℕ → ℕ → Bool
finite_test m p = finite (dart_in m p).point

pub finite_is : (m : List ℕ) → all_below (finite_test m) (count m) ≡ coordinates_finite (darts m)
unfolding coordinates_finite
finite_is m = all_is (λ (d : Dart). finite d.point) (dart_in m) (count m)

-- QUESTION 8
module _ (m : List ℕ) (w : Ranged m) (g : Places m (count m)) (s : SewnPlaces m (count m)) where
  far : (x : ℕ) → x < count m → dart_at (darts m) (next_in (darts m) (column m 0 x)) ≡ dart_in m (column m 1 x)
  far x h = ap (λ (d : Dart). dart_at (darts m) d.next) (dart_is m w x h) ∙ dart_is m w (column m 1 x) (g.next_lt x h)

  agrees : (p x : ℕ) → x < count m → same_point (dart_in m p).point (dart_at (darts m) (next_in (darts m) (column m 0 x))).point ≡ same_at m p (column m 1 x)
  agrees p x h = rw (far x h) refl

  point_is : (p : ℕ) → p < count m → Kind (column m 3 p) (column m 4 p)
      →
      (same_point (dart_in m p).point (dart_at (darts m) (next_in (darts m) (column m 0 (column m 2 p)))).point
      && sewn_points (darts m) (dart_in m p) (third_in (column m 0) (column m 3 p) (column m 4 p))) ≡ point_test m p
  unfolding point_test
  point_is p h (kind_free e _) = rw (agrees p (column m 2 p) (g.opposite_lt p h), third_free (column m 0) (column m 3 p) (column m 4 p) e, e) refl
  point_is p h (kind_sewn e) = rw (agrees p (column m 2 p) (g.opposite_lt p h), third_sewn (column m 0) (column m 3 p) (column m 4 p) e, agrees p (column m 4 p) (s p h (ap is_sewn_word e)), e) refl
  point_is p h (kind_critical e o a) =
      rw (
        agrees p (column m 2 p) (g.opposite_lt p h),
        third_critical (column m 0) (column m 3 p) (column m 4 p) e,
        critical_unsewn (column m 3 p) e,
      ) refl

  pub points_are : all_below (point_test m) (count m) ≡ points_agree (darts m)
  unfolding points_agree
  points_are =
      all_tests
      (λ d. same_point d.point (dart_at (darts m) (next_in (darts m) d.opposite)).point && sewn_points (darts m) d
      d.third) (dart_in m) (point_test m) (count m) (λ p h. point_is p h (w.kinds p h))
