-- Question 5, next and opposite, by columns. Assumes nothing.
use mathlib.Core.Path.{◌≡◌, refl, sym, ap, ◌∙◌}
use mathlib.Core.Bool.{true, not, ◌&&◌}
use mathlib.Core.List.{List}
use mathlib.Core.Logic.{◌⊎◌, inl, inr}
use Prim.Native.Nat.{ℕ, ◌≤◌, ◌<◌}
use native.Mathlib.Omega.{arith}
use lib.Dec.{ltb, eqb}
use borrow.Author.Tests.{eq-eqb, ne_eqb, eqb-true, eqb-false, lt-ltb, ltb-true, not-true}
use Rattle.model.specs.Lists.{any}
use Rattle.model.specs.Values.{Dart}
use Rattle.model.specs.Cells.{held, opposite_in}
use Rattle.model.specs.Sound.{link_right, links_right}
use Rattle.model.specs.Image.{column, dart_in}
use Rattle.laws.proofs.Tests.{lt_or_ge, and_intro, and_left, and_right, not_equal}
use Rattle.laws.proofs.Tables.{all_tab, tab_all, any_tab, tab_any, held_place}
use Rattle.columns.specs.Columns.{count, Ranged, Places, OneToOne, link_test}
use Rattle.columns.proofs.Held.{darts, dart_is, one_serial, eq_place, held_lt, onto}

-- what the test of one dart says
pub record Linked (m : List ℕ) (n p : ℕ) : Type 0 where
  pub next_lt : column m 1 p < n
  pub opposite_lt : column m 2 p < n
  pub other : column m 2 p ≡ p → ⊥
  pub back : column m 2 (column m 2 p) ≡ p

pub linked : (m : List ℕ) (n p : ℕ) → link_test m n p ≡ true → Linked m n p
unfolding link_test
linked m n p e =
    let within = ltb (column m 1 p) n && ltb (column m 2 p) n in
    let there = not (eqb (column m 2 p) p) && eqb (column m 2 (column m 2 p)) p in
    let a = and_left within there e in
    let b = and_right within there e in
    record {
      next_lt = ltb-true _ _ (and_left (ltb (column m 1 p) n) _ a);
      opposite_lt = ltb-true _ _ (and_right (ltb (column m 1 p) n) _ a);
      other = eqb-false _ _ (not-true _ (and_left (not (eqb (column m 2 p) p)) _ b));
      back = eqb-true _ _ (and_right (not (eqb (column m 2 p) p)) _ b);
    }

pub link_yes : (m : List ℕ) (n p : ℕ) → Linked m n p → link_test m n p ≡ true
unfolding link_test
link_yes m n p l = and_intro (and_intro (lt-ltb _ _ l.next_lt) (lt-ltb _ _ l.opposite_lt)) (and_intro (not_equal _ _ l.other) (eq-eqb _ _ l.back))

pub places : (m : List ℕ) (n : ℕ) → ((p : ℕ) → p < n → link_test m n p ≡ true) → Places m n
places m n t = record { next_lt = λ p h. (linked m n p (t p h)).next_lt; opposite_lt = λ p h. (linked m n p (t p h)).opposite_lt }

module _ (m : List ℕ) (w : Ranged m) where
  -- THE TESTS PASS, so question 5 is answered yes
  pub links_yes : ((p : ℕ) → p < count m → link_test m (count m) p ≡ true) → OneToOne (column m 1) (count m) → links_right (darts m) ≡ true
  unfolding links_right link_right
  links_yes t apart = tab_all (link_right (darts m)) (dart_in m) (count m) one
    where
      one : (p : ℕ) → p < count m → link_right (darts m) (dart_in m p) ≡ true
      one p h =
          let l = linked m (count m) p (t p h) in
          let q = onto (count m) (column m 1) (λ i k. (linked m (count m) i (t i k)).next_lt) apart p h in
          and_intro (and_intro (and_intro (and_intro
          (held_place (dart_in m) (count m) (column m 1 p) _ l.next_lt refl)
          (tab_any (λ d. eqb d.next (column m 0 p)) (dart_in m) (count m) q.0 q.1 (eq-eqb _ _ (ap (column m 0) q.2))))
          (held_place (dart_in m) (count m) (column m 2 p) _ l.opposite_lt refl))
          (eq-eqb _ _ (ap (λ (d : Dart). d.opposite) (dart_is m w (column m 2 p) l.opposite_lt) ∙ ap (column m 0) l.back)))
          (rw (eq_place m w (column m 2 p) p l.opposite_lt h, ne_eqb (column m 2 p) p l.other) refl)

  -- QUESTION 5 IS ANSWERED YES, so the tests pass
  module _ (a : links_right (darts m) ≡ true) where
    record Right (p : ℕ) : Type 0 where
      next_held : held (darts m) (column m 0 (column m 1 p)) ≡ true
      reached : any (λ e. eqb e.next (column m 0 p)) (darts m) ≡ true
      opposite_held : held (darts m) (column m 0 (column m 2 p)) ≡ true
      back : eqb (opposite_in (darts m) (column m 0 (column m 2 p))) (column m 0 p) ≡ true
      other : not (eqb (column m 0 (column m 2 p)) (column m 0 p)) ≡ true

    right : (p : ℕ) → p < count m → Right p
    unfolding links_right link_right
    right p h =
        let nx = held (darts m) (column m 0 (column m 1 p)) in
        let rc = any (λ (e : Dart). eqb e.next (column m 0 p)) (darts m) in
        let op = held (darts m) (column m 0 (column m 2 p)) in
        let bk = eqb (opposite_in (darts m) (column m 0 (column m 2 p))) (column m 0 p) in
        let e = all_tab (link_right (darts m)) (dart_in m) (count m) a p h in
        let e4 = and_left (nx && rc && op && bk) _ e in
        let e3 = and_left (nx && rc && op) _ e4 in
        let e2 = and_left (nx && rc) _ e3 in
        record {
          next_held = and_left nx _ e2;
          reached = and_right nx _ e2;
          opposite_held = and_right (nx && rc) _ e3;
          back = and_right (nx && rc && op) _ e4;
          other = and_right (nx && rc && op && bk) _ e;
        }

    next_lt : (p : ℕ) → p < count m → column m 1 p < count m
    next_lt p h = held_lt m w (column m 1 p) (right p h).next_held

    opposite_lt : (p : ℕ) → p < count m → column m 2 p < count m
    opposite_lt p h = held_lt m w (column m 2 p) (right p h).opposite_held

    pub links_says : (p : ℕ) → p < count m → link_test m (count m) p ≡ true
    links_says p h = link_yes m (count m) p (record {
      next_lt = next_lt p h;
      opposite_lt = opposite_lt p h;
      other = λ e. eqb-false _ _ (not-true _ (right p h).other) (ap (column m 0) e);
      back = one_serial m w (opposite_lt (column m 2 p) (opposite_lt p h)) h (sym (ap (λ (d : Dart). d.opposite) (dart_is m w (column m 2 p) (opposite_lt p h))) ∙ eqb-true _ _ (right p h).back);
    })

    -- next is onto, so it is one to one
    reached_by : (p : ℕ) → p < count m → (q : ℕ) × (q < count m) × (column m 1 q ≡ p)
    reached_by p h =
        let r = any_tab (λ e. eqb e.next (column m 0 p)) (dart_in m) (count m) (right p h).reached in
        (r.0, r.1, one_serial m w (next_lt r.0 r.1) h (eqb-true _ _ r.2))

    pick : (p : ℕ) → (p < count m) ⊎ (count m ≤ p) → ℕ
    pick p (inl h) = (reached_by p h).0
    pick p (inr h) = 0

    pick_is : (p : ℕ) (c : (p < count m) ⊎ (count m ≤ p)) → p < count m → (pick p c < count m) × (column m 1 (pick p c) ≡ p)
    unfolding pick
    pick_is p (inl h) l = ((reached_by p h).1, (reached_by p h).2)
    pick_is p (inr h) l = absurd (omega arith)

    pub links_apart : OneToOne (column m 1) (count m)
    links_apart p q hp hq e =
        let n : ℕ = count m in
        let g : ℕ → ℕ = λ x. pick x (lt_or_ge x n) in
        let inj : OneToOne g n = λ x y hx hy f. sym (pick_is x (lt_or_ge x n) hx).1 ∙ ap (column m 1) f ∙ (pick_is y (lt_or_ge y n) hy).1 in
        let a = onto n g (λ x hx. (pick_is x (lt_or_ge x n) hx).0) inj p hp in
        let b = onto n g (λ x hx. (pick_is x (lt_or_ge x n) hx).0) inj q hq in
        let pa : column m 1 p ≡ a.0 = ap (column m 1) (sym a.2) ∙ (pick_is a.0 (lt_or_ge a.0 n) a.1).1 in
        let qb : column m 1 q ≡ b.0 = ap (column m 1) (sym b.2) ∙ (pick_is b.0 (lt_or_ge b.0 n) b.1).1 in
        sym a.2 ∙ ap g (sym pa ∙ e ∙ qb) ∙ b.2

    pub links_places : Places m (count m)
    links_places = record { next_lt = next_lt; opposite_lt = opposite_lt }
