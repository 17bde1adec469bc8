-- Question 2 of one dart: what its own test and its far test say, beside questions 3 to 8. Assumes nothing.
use mathlib.Core.Path.{◌≡◌, refl, ap, ◌∙◌}
use mathlib.Core.Bool.{true, not, ◌&&◌}
use mathlib.Core.List.{List}
use Prim.Native.Nat.{ℕ, ◌<◌, ◌^◌}
use lib.Dec.{ltb, eqb}
use lib.ListN.{get_or}
use borrow.Author.Tests.{eqb-true, eq-eqb, eqb-false, ltb-true, lt-ltb, not-true}
use Rattle.model.specs.Values.{finite}
use Rattle.model.specs.Image.{column, is_sewn_word, dart_in}
use Rattle.laws.proofs.Tests.{by_cases, and_intro, and_left, and_right, not_equal}
use Rattle.columns.specs.Columns.{before, count, place_test, dart_test, same_at, far_test, sewn_test, link_test, third_test, point_test}
use Rattle.columns.proofs.Thirds.{KindRight, kind_says, kind_yes}
use Rattle.columns.proofs.Links.{linked, link_yes}
use Rattle.columns.proofs.ThirdLinks.{Sewn, sewn_says, third_yes, same_kind}
use Rattle.columns.proofs.Question.{Passed}

-- BY ITSELF
pub record DartRight (m : List ℕ) (n p : ℕ) : Type 0 where
  pub above : before (column m 0) p < column m 0 p
  pub serial_small : column m 0 p < 2 ^ 32
  pub finite_point : finite (dart_in m p).point ≡ true
  pub next_lt : column m 1 p < n
  pub opposite_lt : column m 2 p < n
  pub other : column m 2 p ≡ p → ⊥
  pub words_right : KindRight (get_or m 0 0) (get_or m 1 0) n (column m 3 p) (column m 4 p)

pub dart_says : (m : List ℕ) (n p : ℕ) → dart_test m n p ≡ true → DartRight m n p
unfolding dart_test place_test
dart_says m n p e =
    let last = before (column m 0) p in
    let a = ltb last (column m 0 p) in
    let b = a && ltb (column m 0 p) (2 ^ 32) in
    let c = b && finite (dart_in m p).point in
    let d = c && ltb (column m 1 p) n in
    let f = d && ltb (column m 2 p) n in
    let ef = and_left (place_test m n last p) _ e in
    let ed = and_left f _ ef in
    let ec = and_left d _ ed in
    let eb = and_left c _ ec in
    let ea = and_left b _ eb in
    record {
      above = ltb-true _ _ (and_left a _ ea);
      serial_small = ltb-true _ _ (and_right a _ ea);
      finite_point = and_right b _ eb;
      next_lt = ltb-true _ _ (and_right c _ ec);
      opposite_lt = ltb-true _ _ (and_right d _ ed);
      other = eqb-false _ _ (not-true _ (and_right f _ ef));
      words_right = kind_says (get_or m 0 0) (get_or m 1 0) n (column m 3 p) (column m 4 p) (and_right (place_test m n last p) _ e);
    }

pub dart_yes : (m : List ℕ) (n p : ℕ) → DartRight m n p → dart_test m n p ≡ true
unfolding dart_test place_test
dart_yes m n p d =
    let k = d.words_right in
    and_intro
    (and_intro
    (and_intro
    (and_intro (and_intro (and_intro (lt-ltb _ _ d.above) (lt-ltb _ _ d.serial_small)) d.finite_point)
    (lt-ltb _ _ d.next_lt)) (lt-ltb _ _ d.opposite_lt)) (not_equal _ _ d.other))
    (kind_yes (get_or m 0 0) (get_or m 1 0) n (column m 3 p) (column m 4 p) k.kind k.label k.sewn_lt)

-- WITH THE DARTS THAT IT LINKS TO
pub record FarRight (m : List ℕ) (p : ℕ) : Type 0 where
  pub back : column m 2 (column m 2 p) ≡ p
  pub next_kind : column m 3 (column m 1 p) ≡ column m 3 p
  pub point : same_at m p (column m 1 (column m 2 p)) ≡ true
  pub if_sewn : is_sewn_word (column m 3 p) ≡ true → (sewn_test m p (column m 4 p) (column m 4 (column m 1 p)) ≡ true) × (same_at m p (column m 1 (column m 4 p)) ≡ true)

pub far_says : (m : List ℕ) (p : ℕ) → far_test m p ≡ true → FarRight m p
unfolding far_test
far_says m p e =
    let a = eqb (column m 2 (column m 2 p)) p in
    let b = a && eqb (column m 3 (column m 1 p)) (column m 3 p) in
    let c = b && same_at m p (column m 1 (column m 2 p)) in
    let s = sewn_test m p (column m 4 p) (column m 4 (column m 1 p)) in
    let ec = and_left c _ e in
    let eb = and_left b _ ec in
    record {
      back = eqb-true _ _ (and_left a _ eb);
      next_kind = eqb-true _ _ (and_right a _ eb);
      point = and_right b _ ec;
      if_sewn = λ k.
          let t : (s && same_at m p (column m 1 (column m 4 p))) ≡ true = rw k at (and_right c _ e) in
          (and_left s _ t, and_right s _ t);
    }

pub far_yes : (m : List ℕ) (p : ℕ) → FarRight m p → far_test m p ≡ true
unfolding far_test
far_yes m p f = and_intro (and_intro (and_intro (eq-eqb _ _ f.back) (eq-eqb _ _ f.next_kind)) f.point)
    (by_cases (is_sewn_word (column m 3 p)) (λ k. rw k (and_intro (f.if_sewn k).0 (f.if_sewn k).1)) (λ k. rw k refl))

-- QUESTIONS 5, 6 AND 8 of one dart
module _ (m : List ℕ) (n : ℕ) (d : (p : ℕ) → p < n → DartRight m n p) (p : ℕ) (h : p < n) where
  sewn_here : FarRight m p → is_sewn_word (column m 3 p) ≡ true → Sewn m n p
  unfolding sewn_test
  sewn_here f k =
      let l = column m 4 p in
      let z = column m 4 (column m 1 p) in
      let a = is_sewn_word (column m 3 l) in
      let b = a && eqb (column m 4 l) p in
      let c = b && not (eqb l p) in
      let e = (f.if_sewn k).0 in
      let ec = and_left c _ e in
      let eb = and_left b _ ec in
      record {
        sewn_lt = (d p h).words_right.sewn_lt k;
        next_sewn_lt = (d (column m 1 p) (d p h).next_lt).words_right.sewn_lt (ap is_sewn_word f.next_kind ∙ k);
        kind = and_left a _ eb;
        back = eqb-true _ _ (and_right a _ eb);
        other = eqb-false _ _ (not-true _ (and_right b _ ec));
        along = eqb-true _ _ (and_right c _ e);
      }

  pub link_here : FarRight m p → link_test m n p ≡ true
  link_here f = link_yes m n p (record { next_lt = (d p h).next_lt; opposite_lt = (d p h).opposite_lt; other = (d p h).other; back = f.back })

  pub third_here : FarRight m p → third_test m n p ≡ true
  third_here f = third_yes m n p f.next_kind (sewn_here f)

  pub points_here : FarRight m p → point_test m p ≡ true
  unfolding point_test
  points_here f = and_intro f.point (by_cases (is_sewn_word (column m 3 p)) (λ k. rw k (f.if_sewn k).1) (λ k. rw k refl))

-- back again
points_says : (m : List ℕ) (p : ℕ) → point_test m p ≡ true → (same_at m p (column m 1 (column m 2 p)) ≡ true) × (is_sewn_word (column m 3 p) ≡ true → same_at m p (column m 1 (column m 4 p)) ≡ true)
unfolding point_test
points_says m p e =
    let a = same_at m p (column m 1 (column m 2 p)) in
    (and_left a _ e, λ k. rw k at (and_right a _ e))

sewn_yes : (m : List ℕ) (n p : ℕ) → Sewn m n p → sewn_test m p (column m 4 p) (column m 4 (column m 1 p)) ≡ true
unfolding sewn_test
sewn_yes m n p s = and_intro (and_intro (and_intro s.kind (eq-eqb _ _ s.back)) (not_equal _ _ s.other)) (eq-eqb _ _ s.along)

pub far_from : (m : List ℕ) (n p : ℕ) → link_test m n p ≡ true → third_test m n p ≡ true → point_test m p ≡ true → FarRight m p
far_from m n p l t q =
    let pts = points_says m p q in
    record {
      back = (linked m n p l).back;
      next_kind = same_kind m n p t;
      point = pts.0;
      if_sewn = λ k. (sewn_yes m n p (sewn_says m n p t k), pts.1 k);
    }

pub dart_from : (m : List ℕ) → Passed m → (p : ℕ) → p < count m → DartRight m (count m) p
dart_from m a p h =
    let l = linked m (count m) p (a.links p h) in
    record {
      above = a.range.above p h;
      serial_small = a.range.serial_small p h;
      finite_point = a.finite_points p h;
      next_lt = l.next_lt;
      opposite_lt = l.opposite_lt;
      other = l.other;
      words_right = record { kind = a.range.kinds p h; label = a.labels p h; sewn_lt = λ k. (sewn_says m (count m) p (a.thirds p h) k).sewn_lt };
    }
