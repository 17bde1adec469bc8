-- Question 6, third links, by columns. Assumes nothing.
use mathlib.Core.Path.{◌≡◌, refl, sym, ap, ◌∙◌}
use mathlib.Core.Bool.{true, false≢true, not, ◌&&◌}
use mathlib.Core.List.{List}
use Prim.Native.Nat.{ℕ, ◌/◌, ◌<◌}
use native.Mathlib.Omega.{arith}
use lib.Dec.{ltb, eqb}
use borrow.Author.Tests.{eq-eqb, ne_eqb, eqb-true, eqb-false, lt-ltb, ltb-true, not-true}
use Rattle.model.specs.Values.{Third, Dart, is_free, is_sewn_to, is_critical_with}
use Rattle.model.specs.Cells.{held, next_in, third_at}
use Rattle.model.specs.Sound.{sewn_along, third_right, thirds_right}
use Rattle.model.specs.Image.{column, is_sewn_word, is_critical_word, third_in, dart_in}
use Rattle.laws.proofs.Tests.{by_cases, and_intro, and_left, and_right, not_equal}
use Rattle.laws.proofs.Tables.{all_tab, tab_all, held_place}
use Rattle.columns.specs.Columns.{count, Kind, kind_free, kind_sewn, kind_critical, Ranged, Places, SewnPlaces, sewn_test, third_test}
use Rattle.columns.proofs.Thirds.{critical_two, third_free, third_sewn, third_critical, kind_one}
use Rattle.columns.proofs.Held.{darts, dart_is, one_serial, eq_place, held_lt}

-- what the test says of a sewn dart
pub record Sewn (m : List ℕ) (n p : ℕ) : Type 0 where
  pub sewn_lt : column m 4 p < n
  pub next_sewn_lt : column m 4 (column m 1 p) < n
  pub kind : is_sewn_word (column m 3 (column m 4 p)) ≡ true
  pub back : column m 4 (column m 4 p) ≡ p
  pub other : column m 4 p ≡ p → ⊥
  pub along : column m 1 (column m 4 (column m 1 p)) ≡ column m 4 p

pub same_kind : (m : List ℕ) (n p : ℕ) → third_test m n p ≡ true → column m 3 (column m 1 p) ≡ column m 3 p
unfolding third_test
same_kind m n p e = eqb-true _ _ (and_left (eqb (column m 3 (column m 1 p)) (column m 3 p)) _ e)

pub sewn_says : (m : List ℕ) (n p : ℕ) → third_test m n p ≡ true → is_sewn_word (column m 3 p) ≡ true → Sewn m n p
unfolding third_test sewn_test
sewn_says m n p e k =
    let l = column m 4 p in
    let z = column m 4 (column m 1 p) in
    let within = ltb l n && ltb z n in
    let two = is_sewn_word (column m 3 l) && eqb (column m 4 l) p in
    let three = two && not (eqb l p) in
    let s : (within && (three && eqb (column m 1 z) l)) ≡ true = rw k at (and_right (eqb (column m 3 (column m 1 p)) (column m 3 p)) _ e) in
    let a = and_left within _ s in
    let b = and_right within _ s in
    let c = and_left three _ b in
    let d = and_left two _ c in
    record {
      sewn_lt = ltb-true _ _ (and_left (ltb l n) _ a);
      next_sewn_lt = ltb-true _ _ (and_right (ltb l n) _ a);
      kind = and_left (is_sewn_word (column m 3 l)) _ d;
      back = eqb-true _ _ (and_right (is_sewn_word (column m 3 l)) _ d);
      other = eqb-false _ _ (not-true _ (and_right two _ c));
      along = eqb-true _ _ (and_right three _ b);
    }

pub third_yes : (m : List ℕ) (n p : ℕ) → column m 3 (column m 1 p) ≡ column m 3 p → (is_sewn_word (column m 3 p) ≡ true → Sewn m n p) → third_test m n p ≡ true
unfolding third_test sewn_test
third_yes m n p e s = and_intro (eq-eqb _ _ e) (by_cases (is_sewn_word (column m 3 p)) (λ k. rw k (yes (s k))) (λ k. rw k refl))
  where
    yes : Sewn m n p → ((ltb (column m 4 p) n && ltb (column m 4 (column m 1 p)) n)
        && (is_sewn_word (column m 3 (column m 4 p)) && eqb (column m 4 (column m 4 p)) p && not (eqb (column m 4 p) p) && eqb (column m 1 (column m 4 (column m 1 p))) (column m 4 p))) ≡ true
    yes t = and_intro (and_intro (lt-ltb _ _ t.sewn_lt) (lt-ltb _ _ t.next_sewn_lt))
        (and_intro (and_intro (and_intro t.kind (eq-eqb _ _ t.back)) (not_equal _ _ t.other)) (eq-eqb _ _ t.along))

pub sewn_places : (m : List ℕ) (n : ℕ) → ((p : ℕ) → p < n → third_test m n p ≡ true) → SewnPlaces m n
sewn_places m n t p h k = (sewn_says m n p (t p h) k).sewn_lt

abbrev third_of : List ℕ → ℕ → Third
third_of m p = third_in (column m 0) (column m 3 p) (column m 4 p)

module _ (m : List ℕ) (w : Ranged m) (g : Places m (count m)) where
  third_is : (x : ℕ) → x < count m → third_at (darts m) (column m 0 x) ≡ third_of m x
  third_is x h = ap (λ (d : Dart). d.third) (dart_is m w x h)

  next_is : (x : ℕ) → x < count m → next_in (darts m) (column m 0 x) ≡ column m 0 (column m 1 x)
  next_is x h = ap (λ (d : Dart). d.next) (dart_is m w x h)

  -- THE TESTS PASS, so question 6 is answered yes
  pub thirds_yes : ((p : ℕ) → p < count m → third_test m (count m) p ≡ true) → thirds_right (darts m) ≡ true
  unfolding thirds_right third_right
  thirds_yes t = tab_all (λ d. third_right (darts m) d d.third) (dart_in m) (count m) (λ p h. one p h (w.kinds p h))
    where
      one : (p : ℕ) → p < count m → Kind (column m 3 p) (column m 4 p) → third_right (darts m) (dart_in m p) (third_of m p) ≡ true
      one p h (kind_free e f) =
          rw (
            third_free (column m 0) (column m 3 p) (column m 4 p) e,
            third_is (column m 1 p) (g.next_lt p h),
            third_free (column m 0) (column m 3 (column m 1 p)) (column m 4 (column m 1 p)) (same_kind m (count m) p (t p h) ∙ e),
          ) refl
      one p h (kind_sewn e) =
          let s = sewn_says m (count m) p (t p h) (ap is_sewn_word e) in
          let l = s.sewn_lt in
          rw (third_sewn (column m 0) (column m 3 p) (column m 4 p) e)
          (and_intro (and_intro (and_intro
          (held_place (dart_in m) (count m) (column m 4 p) _ l refl)
          (rw (third_is (column m 4 p) l, third_sewn (column m 0) (column m 3 (column m 4 p)) (column m 4 (column m 4 p)) (kind_one (w.kinds (column m 4 p) l) s.kind)) (eq-eqb _ _ (ap (column m 0) (sym s.back)))))
          (rw (eq_place m w (column m 4 p) p l h, ne_eqb (column m 4 p) p s.other) refl))
          (rw (third_is (column m 1 p) (g.next_lt p h), third_sewn (column m 0) (column m 3 (column m 1 p)) (column m 4 (column m 1 p)) (same_kind m (count m) p (t p h) ∙ e))
          (eq-eqb _ _ (next_is (column m 4 (column m 1 p)) s.next_sewn_lt ∙ ap (column m 0) s.along))))
      one p h (kind_critical e f a) =
          let same = same_kind m (count m) p (t p h) in
          rw (
            third_critical (column m 0) (column m 3 p) (column m 4 p) e,
            third_is (column m 1 p) (g.next_lt p h),
            third_critical (column m 0) (column m 3 (column m 1 p)) (column m 4 (column m 1 p)) (ap (λ (x : ℕ). is_critical_word x) same ∙ e),
          )
          (eq-eqb _ _ (ap (λ (x : ℕ). x / 4) (sym same)))

  -- QUESTION 6 IS ANSWERED YES, so the tests pass
  module _ (a : thirds_right (darts m) ≡ true) where
    right : (p : ℕ) → p < count m → third_right (darts m) (dart_in m p) (third_of m p) ≡ true
    unfolding thirds_right
    right p h = all_tab (λ d. third_right (darts m) d d.third) (dart_in m) (count m) a p h

    record Right (p : ℕ) : Type 0 where
      sewn_held : held (darts m) (column m 0 (column m 4 p)) ≡ true
      back : is_sewn_to (column m 0 p) (third_at (darts m) (column m 0 (column m 4 p))) ≡ true
      other : not (eqb (column m 0 (column m 4 p)) (column m 0 p)) ≡ true
      along : sewn_along (darts m) (column m 0 (column m 4 p)) (third_at (darts m) (column m 0 (column m 1 p))) ≡ true

    sewn_right : (p : ℕ) → p < count m → column m 3 p ≡ 1 → Right p
    unfolding third_right
    sewn_right p h e =
        let y = column m 0 (column m 4 p) in
        let two = held (darts m) y && is_sewn_to (column m 0 p) (third_at (darts m) y) in
        let three = two && not (eqb y (column m 0 p)) in
        let r : (three && sewn_along (darts m) y (third_at (darts m) (column m 0 (column m 1 p)))) ≡ true =
        sym (ap (third_right (darts m) (dart_in m p)) (third_sewn (column m 0) (column m 3 p) (column m 4 p) e)) ∙ right p h
        in
        let c = and_left three _ r in
        let d = and_left two _ c in
        record { sewn_held = and_left (held (darts m) y) _ d; back = and_right (held (darts m) y) _ d; other = and_right two _ c; along = and_right three _ r }

    sewn_lt : (p : ℕ) → p < count m → column m 3 p ≡ 1 → column m 4 p < count m
    sewn_lt p h e = held_lt m w (column m 4 p) (sewn_right p h e).sewn_held

    -- the dart that p is sewn to is sewn to p
    sewn_back : (p : ℕ) → p < count m → column m 3 p ≡ 1 → Kind (column m 3 (column m 4 p)) (column m 4 (column m 4 p)) → (column m 3 (column m 4 p) ≡ 1) × (column m 4 (column m 4 p) ≡ p)
    sewn_back p h e kd = go kd (sym (ap (is_sewn_to (column m 0 p)) (third_is (column m 4 p) (sewn_lt p h e))) ∙ (sewn_right p h e).back)
      where
        l : ℕ
        l = column m 4 p

        go : Kind (column m 3 (column m 4 p)) (column m 4 (column m 4 p))
            → is_sewn_to (column m 0 p) (third_of m (column m 4 p)) ≡ true
            → (column m 3 (column m 4 p) ≡ 1) × (column m 4 (column m 4 p) ≡ p)
        go (kind_free c d) t = absurd (false≢true (sym (ap (is_sewn_to (column m 0 p)) (third_free (column m 0) (column m 3 l) (column m 4 l) c)) ∙ t))
        go (kind_sewn c) t = (
          c,
          sym
              (one_serial m w h (sewn_lt l (sewn_lt p h e) c)
              (eqb-true _ _ (sym (ap (is_sewn_to (column m 0 p)) (third_sewn (column m 0) (column m 3 l) (column m 4 l) c)) ∙ t))),
        )
        go (kind_critical c d f) t = absurd (false≢true (sym (ap (is_sewn_to (column m 0 p)) (third_critical (column m 0) (column m 3 l) (column m 4 l) c)) ∙ t))

    -- the next dart is sewn along
    sewn_next : (p : ℕ) → p < count m → column m 3 p ≡ 1 → Kind (column m 3 (column m 1 p)) (column m 4 (column m 1 p))
        → (column m 3 (column m 1 p) ≡ 1) × (column m 1 (column m 4 (column m 1 p)) ≡ column m 4 p)
    sewn_next p h e kd = go kd (sym (ap (sewn_along (darts m) y) (third_is (column m 1 p) (g.next_lt p h))) ∙ (sewn_right p h e).along)
      where
        x : ℕ
        x = column m 1 p

        y : ℕ
        y = column m 0 (column m 4 p)

        go : Kind (column m 3 (column m 1 p)) (column m 4 (column m 1 p)) → sewn_along (darts m) (column m 0 (column m 4 p)) (third_of m (column m 1 p)) ≡ true
            → (column m 3 (column m 1 p) ≡ 1) × (column m 1 (column m 4 (column m 1 p)) ≡ column m 4 p)
        go (kind_free c d) t = absurd (false≢true (sym (ap (sewn_along (darts m) y) (third_free (column m 0) (column m 3 x) (column m 4 x) c)) ∙ t))
        go (kind_sewn c) t =
            let u : eqb (next_in (darts m) (column m 0 (column m 4 x))) y ≡ true = sym (ap (sewn_along (darts m) y) (third_sewn (column m 0) (column m 3 x) (column m 4 x) c)) ∙ t in
            let z = sewn_lt x (g.next_lt p h) c in
            (c, one_serial m w (g.next_lt (column m 4 x) z) (sewn_lt p h e) (sym (next_is (column m 4 x) z) ∙ eqb-true _ _ u))
        go (kind_critical c d f) t = absurd (false≢true (sym (ap (sewn_along (darts m) y) (third_critical (column m 0) (column m 3 x) (column m 4 x) c)) ∙ t))

    kinds_same : (p : ℕ) → p < count m → Kind (column m 3 p) (column m 4 p) → Kind (column m 3 (column m 1 p)) (column m 4 (column m 1 p)) → column m 3 (column m 1 p) ≡ column m 3 p
    unfolding third_right
    kinds_same p h (kind_free e l) kd =
        go kd
        (sym (ap is_free (third_is x (g.next_lt p h)))
        ∙ sym (ap (third_right (darts m) (dart_in m p)) (third_free (column m 0) (column m 3 p) (column m 4 p) e)) ∙ right p h)
      where
        x : ℕ
        x = column m 1 p

        go : Kind (column m 3 (column m 1 p)) (column m 4 (column m 1 p)) → is_free (third_of m (column m 1 p)) ≡ true → column m 3 (column m 1 p) ≡ column m 3 p
        go (kind_free c d) t = c ∙ sym e
        go (kind_sewn c) t = absurd (false≢true (sym (ap is_free (third_sewn (column m 0) (column m 3 x) (column m 4 x) c)) ∙ t))
        go (kind_critical c d f) t = absurd (false≢true (sym (ap is_free (third_critical (column m 0) (column m 3 x) (column m 4 x) c)) ∙ t))
    kinds_same p h (kind_sewn e) kd = (sewn_next p h e kd).0 ∙ sym e
    kinds_same p h (kind_critical e o l) kd =
        go kd
        (sym (ap (is_critical_with (column m 3 p / 4)) (third_is x (g.next_lt p h)))
        ∙ sym (ap (third_right (darts m) (dart_in m p)) (third_critical (column m 0) (column m 3 p) (column m 4 p) e)) ∙ right p h)
      where
        x : ℕ
        x = column m 1 p

        go : Kind (column m 3 (column m 1 p)) (column m 4 (column m 1 p)) → is_critical_with (column m 3 p / 4) (third_of m (column m 1 p)) ≡ true → column m 3 (column m 1 p) ≡ column m 3 p
        go (kind_free c d) t = absurd (false≢true (sym (ap (is_critical_with (column m 3 p / 4)) (third_free (column m 0) (column m 3 x) (column m 4 x) c)) ∙ t))
        go (kind_sewn c) t = absurd (false≢true (sym (ap (is_critical_with (column m 3 p / 4)) (third_sewn (column m 0) (column m 3 x) (column m 4 x) c)) ∙ t))
        go (kind_critical c d f) t =
            let q : column m 3 p / 4 ≡ column m 3 x / 4 = eqb-true _ _ (sym (ap (is_critical_with (column m 3 p / 4)) (third_critical (column m 0) (column m 3 x) (column m 4 x) c)) ∙ t) in
            omega (arith, q, critical_two (column m 3 p) e, critical_two (column m 3 x) c)

    pub thirds_says : (p : ℕ) → p < count m → third_test m (count m) p ≡ true
    thirds_says p h =
        let x = g.next_lt p h in
        let same = kinds_same p h (w.kinds p h) (w.kinds (column m 1 p) x) in
        third_yes m (count m) p same (λ is_sewn.
        let e = kind_one (w.kinds p h) is_sewn in
        let l = sewn_lt p h e in
        let b = sewn_back p h e (w.kinds (column m 4 p) l) in
        let n = sewn_next p h e (w.kinds (column m 1 p) x) in
        record {
          sewn_lt = l;
          next_sewn_lt = sewn_lt (column m 1 p) x n.0;
          kind = ap is_sewn_word b.0;
          back = b.1;
          other = λ q. eqb-false _ _ (not-true _ (sewn_right p h e).other) (ap (column m 0) q);
          along = n.1;
        })
