-- What the tests of a block say of the darts that it holds. Assumes nothing.
use mathlib.Core.Path.{◌≡◌, refl, sym, ◌∙◌, ap, subst}
use mathlib.Core.Logic.{◌≢◌}
use mathlib.Core.Bool.{Bool, true, true≢false, not, ◌&&◌}
use mathlib.Core.List.{List, [], ◌∷◌}
use mathlib.Core.Option.{some, none-ne-some, some-injective}
use Prim.Native.Nat.{ℕ, zero, suc, ◌<◌}
use native.Mathlib.Omega.{arith}
use native.Mathlib.Nat.{not-suc-le-zero}
use lib.Dec.{eqb}
use lib.ListN.{length}
use borrow.Author.Tests.{eqb-true, eqb-false, eq-eqb, ne_eqb, not-true}
use Rattle.model.specs.Lists.{all, any, mem, distinct, find}
use Rattle.laws.proofs.Tests.{by_cases, and_intro, and_left, and_right, found_all}
use Rattle.model.specs.Values.{Point, Dart, same_point, or_no_dart}
use Rattle.model.specs.Cells.{dart_at, next_in, opposite_in, previous_in, serials}
use Rattle.model.specs.Sound.{links_right, link_right}
use Rattle.laws.proofs.Members.{In, in_here, in_there, in_eq}
use Rattle.laws.proofs.Orbits.{iter, iter_out, iter_stays, around_path}

-- a dart that is held is found
pub held_found : (x : ℕ) (ds : List Dart) → In x (serials ds) → (d : Dart) × (find (λ d. d.serial) x ds ≡ some d) × (d.serial ≡ x)
held_found x [] h = absurd (true≢false (sym h))
held_found x (e ∷ ds) h = by_cases (eqb x e.serial)
    (λ k. (e, rw k, sym (eqb-true x e.serial k)))
    (λ k. let r = held_found x ds (rw k at h) in (r.0, rw k r.1, r.2))

-- what a test over all darts says of a dart that is held
pub at_held : (p : Dart → Bool) (ds : List Dart) → all p ds ≡ true → (x : ℕ) → In x (serials ds) → (p (dart_at ds x) ≡ true) × ((dart_at ds x).serial ≡ x)
unfolding dart_at
at_held p ds a x h = go (held_found x ds h)
  where
    go : (d : Dart) × (find (λ d. d.serial) x ds ≡ some d) × (d.serial ≡ x) → (p (or_no_dart (find (λ d. d.serial) x ds)) ≡ true) × ((or_no_dart (find (λ d. d.serial) x ds)).serial ≡ x)
    go r = rw r.1 (found_all (λ d. d.serial) p x ds r.0 a r.1, r.2)

-- a dart whose next is x, where there is one
pub next_found : (x : ℕ) (ds : List Dart) → any (λ e. eqb e.next x) ds ≡ true → (d : Dart) × (find (λ d. d.next) x ds ≡ some d) × (d.next ≡ x) × In d.serial (serials ds)
next_found x [] h = absurd (true≢false (sym h))
next_found x (e ∷ ds) h = by_cases (eqb x e.next)
    (λ k. (e, rw k, sym (eqb-true x e.next k), in_here e.serial (serials ds)))
    (λ k. let r = next_found x ds (rw (ne_eqb e.next x (λ q. eqb-false x e.next k (sym q))) at h) in (r.0, rw k r.1, r.2, in_there r.0.serial e.serial (serials ds) r.3))

-- A set with a function that has a right inverse on it: both are then bijections
module _ (nx pv : ℕ → ℕ) (ds : List ℕ) (pv-in : (x : ℕ) → In x ds → In (pv x) ds) (nx-pv : (x : ℕ) → In x ds → nx (pv x) ≡ x) where
  pv_inj : (x y : ℕ) → In x ds → In y ds → pv x ≡ pv y → x ≡ y
  pv_inj x y hx hy e = sym (nx-pv x hx) ∙ ap nx e ∙ nx-pv y hy

  last_step : (p x : ℕ) → 0 < p → iter pv p x ≡ x → In x ds → (y : ℕ) × In y ds × (x ≡ pv y)
  last_step zero x u e h = absurd (not-suc-le-zero u)
  last_step (suc q) x u e h = (iter pv q x, iter_stays pv ds pv-in pv_inj q x h, sym e ∙ iter_out pv q x)

  onto : (x : ℕ) → In x ds → (y : ℕ) × In y ds × (x ≡ pv y)
  onto x h = let r = around_path pv ds pv-in pv_inj (length ds) x (omega arith) h in last_step r.0 x r.1 r.4 h

  pub pv_nx : (x : ℕ) → In x ds → pv (nx x) ≡ x
  pv_nx x h = let r = onto x h in ap pv (ap nx r.2 ∙ nx-pv r.0 r.1) ∙ sym r.2

  pub nx_in : (x : ℕ) → In x ds → In (nx x) ds
  nx_in x h = let r = onto x h in in_eq (nx x) r.0 ds (ap nx r.2 ∙ nx-pv r.0 r.1) r.1

-- What question 5 says, of serials
pub record Links (ds : List Dart) : Type 0 where
  pub next_in_block : (x : ℕ) → In x (serials ds) → In (next_in ds x) (serials ds)
  pub previous_in_block : (x : ℕ) → In x (serials ds) → In (previous_in ds x) (serials ds)
  pub next_previous : (x : ℕ) → In x (serials ds) → next_in ds (previous_in ds x) ≡ x
  pub previous_next : (x : ℕ) → In x (serials ds) → previous_in ds (next_in ds x) ≡ x
  pub opposite_in_block : (x : ℕ) → In x (serials ds) → In (opposite_in ds x) (serials ds)
  pub opposite_opposite : (x : ℕ) → In x (serials ds) → opposite_in ds (opposite_in ds x) ≡ x
  pub opposite_other : (x : ℕ) → In x (serials ds) → opposite_in ds x ≢ x

-- a row that is found by another key is there
pub found_in : (key : Dart → ℕ) (x : ℕ) (ds : List Dart) (d : Dart) → find key x ds ≡ some d → In d.serial (serials ds)
found_in key x [] d p = absurd (none-ne-some d p)
found_in key x (e ∷ ds) d p = by_cases (eqb x (key e))
    (λ k. let q : e ≡ d = some-injective e d (rw k at p) in subst (λ (u : Dart). In u.serial (e.serial ∷ serials ds)) q (in_here e.serial (serials ds)))
    (λ k. in_there d.serial e.serial (serials ds) (found_in key x ds d (rw k at p)))

-- serials are distinct: a dart that is found by another key is the one found by its serial
pub found_self : (key : Dart → ℕ) (x : ℕ) (ds : List Dart) (d : Dart) → distinct (serials ds) ≡ true → find key x ds ≡ some d → dart_at ds d.serial ≡ d
unfolding dart_at
found_self key x [] d u p = absurd (none-ne-some d p)
found_self key x (e ∷ ds) d u p = by_cases (eqb x (key e))
    (λ k. let q : e ≡ d = some-injective e d (rw k at p) in rw (← q, eq-eqb e.serial e.serial refl))
    (λ k. let there = found_in key x ds d (rw k at p) in by_cases (eqb d.serial e.serial)
    (λ j. absurd (true≢false (sym (in_eq e.serial d.serial (serials ds) (sym (eqb-true d.serial e.serial j)) there) ∙ not-true (mem e.serial (serials ds)) (and_left _ _ u))))
    (λ j. rw j (found_self key x ds d (and_right (not (mem e.serial (serials ds))) _ u) (rw k at p))))

and5 : (a b c d e : Bool) → (a && b && c && d && e) ≡ true → (a ≡ true) × (b ≡ true) × (c ≡ true) × (d ≡ true) × (e ≡ true)
and5 a b c d e p =
    let q = and_left (a && b && c && d) e p in
    let r = and_left (a && b && c) d q in
    let s = and_left (a && b) c r in
    (and_left a b s, and_right a b s, and_right (a && b) c r, and_right (a && b && c) d q, and_right (a && b && c && d) e p)

-- question 5 at one dart
link_test : (ds : List Dart) → links_right ds ≡ true → (x : ℕ) → In x (serials ds)
    → In (next_in ds x) (serials ds) × (any (λ e. eqb e.next x) ds ≡ true) × In (opposite_in ds x) (serials ds)
    × (eqb (opposite_in ds (opposite_in ds x)) x ≡ true) × (not (eqb (opposite_in ds x) x) ≡ true)
unfolding links_right link_right
link_test ds a x h = let t = at_held (link_right ds) ds a x h in
    subst (λ (y : ℕ). In (next_in ds x) (serials ds) × (any (λ e. eqb e.next y) ds ≡ true) × In (opposite_in ds x) (serials ds)
    × (eqb (opposite_in ds (opposite_in ds x)) y ≡ true) × (not (eqb (opposite_in ds x) y) ≡ true)) t.1 (and5 _ _ _ _ _ t.0)

pub links_from : (ds : List Dart) → distinct (serials ds) ≡ true → links_right ds ≡ true → Links ds
unfolding previous_in
links_from ds u a = record {
  next_in_block = λ x h. (link_test ds a x h).0;
  previous_in_block = back_in;
  next_previous = back_next;
  previous_next = λ x h. pv_nx (next_in ds) (previous_in ds) (serials ds) back_in back_next x h;
  opposite_in_block = λ x h. (link_test ds a x h).2;
  opposite_opposite = λ x h. eqb-true (opposite_in ds (opposite_in ds x)) x (link_test ds a x h).3;
  opposite_other = λ x h. eqb-false (opposite_in ds x) x (not-true (eqb (opposite_in ds x) x) (link_test ds a x h).4);
}
  where
    found_back : (x : ℕ) → In x (serials ds) → (d : Dart) × (find (λ d. d.next) x ds ≡ some d) × (d.next ≡ x) × In d.serial (serials ds)
    found_back x h = next_found x ds (link_test ds a x h).1

    back_in : (x : ℕ) → In x (serials ds) → In (or_no_dart (find (λ d. d.next) x ds)).serial (serials ds)
    back_in x h = let r = found_back x h in rw r.1 r.3

    back_next : (x : ℕ) → In x (serials ds) → next_in ds (or_no_dart (find (λ d. d.next) x ds)).serial ≡ x
    back_next x h = let r = found_back x h in rw r.1 (ap (λ (e : Dart). e.next) (found_self (λ d. d.next) x ds r.0 u r.1) ∙ r.2)

-- the ring of next x holds the opposite of x
abbrev pub ring_step : List Dart → ℕ → ℕ
ring_step ds d = next_in ds (opposite_in ds d)

-- POINTS
-- points that are equal agree
pub same_point_self : (p q : Point) → p ≡ q → same_point p q ≡ true
unfolding same_point
same_point_self p q e = rw e (and_intro (and_intro (eq-eqb q.x q.x refl) (eq-eqb q.y q.y refl)) (eq-eqb q.z q.z refl))

pub same_point_is : (p q : Point) → same_point p q ≡ true → p ≡ q
unfolding same_point
same_point_is p q e =
    let two = and_left (eqb p.x q.x && eqb p.y q.y) _ e in
    let a = eqb-true p.x q.x (and_left (eqb p.x q.x) _ two) in
    let b = eqb-true p.y q.y (and_right (eqb p.x q.x) _ two) in
    let c = eqb-true p.z q.z (and_right (eqb p.x q.x && eqb p.y q.y) _ e) in
    λ i. record { x = a i; y = b i; z = c i }
