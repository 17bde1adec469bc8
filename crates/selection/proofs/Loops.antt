-- The loops over a queue and over all places: what holds before and after each step. Assumes nothing.
use mathlib.Core.Path.{◌≡◌, refl, sym, ap, subst, ◌∙◌}
use mathlib.Core.Bool.{Bool, true, false, true≢false}
use mathlib.Core.List.{List, [], ◌∷◌}
use mathlib.Core.Logic.{⊎_elim}
use Prim.Native.Nat.{ℕ, zero, ◌+◌, ◌≤◌, ◌<◌}
use native.Mathlib.Numerals.{add-one}
use native.Mathlib.Omega.{arith}
use lib.Dec.{ltb}
use lib.ListN.{length, get_or, set, length-append, length-map, length-set}
use lib.Seq.{get_or-set_same, get_or-set_other}
use borrow.Author.Tests.{lt-ltb}
use Rattle.model.specs.Lists.{keep, tab}
use Rattle.model.specs.Values.{room}
use Rattle.model.specs.Balance.{Oracle, picked}
use Rattle.model.specs.Image.{column, block_in, holds_block}
use Rattle.laws.proofs.Tests.{last_or_below}
use Rattle.laws.proofs.Members.{keep_le, keep_cong}
use Rattle.laws.proofs.Maps.{tab_more}
use Rattle.laws.proofs.Tables.{length_tab}
use Rattle.memory.specs.Point.{point_of, patterns, FiniteAt}
use Rattle.memory.specs.declared.point.Point.{Point}
use Rattle.memory.proofs.Points.{point_patterns, finite_at}
use Rattle.oracle.specs.Oracle.{holds}
use Rattle.columns.proofs.Question.{image_passed}
use Rattle.cells.specs.Places.{Clear}
use Rattle.cells.proofs.Reached.{places, places_below}
use Rattle.cells.proofs.Walks.{sum_marks}
use Rattle.cells.proofs.Sited.{sited}
use Rattle.cells.proofs.FaceLaws.{keep_append}
use Rattle.selection.specs.Picked.{picked_size, Sizes, Walkable, SomePicked, holds_at, Marking, Through}
use Rattle.selection.proofs.PickedPlaces.{picked_places}

-- ONE POINT of a block's memory
held : (o : Oracle) (second : Bool) (m : List ℕ) (p : ℕ) → FiniteAt m p → {x : Point} {r : Bool} → x ≡ point_of (column m 5 p) (column m 6 p) (column m 7 p)
    → r ≡ holds o second (patterns x) → r ≡ holds_at o second m p
held o second m p f e h =
    h ∙ ap (λ (q : Point). holds o second (patterns q)) e ∙ ap (holds o second) (point_patterns (column m 5 p) (column m 6 p) (column m 7 p) f.on_x f.on_y f.on_z)

-- the one that a queue has at k
pub held_in : (o : Oracle) (second : Bool) (m : List ℕ) {p q : ℕ} → FiniteAt m q → p ≡ q → {x : Point} {r : Bool} → x ≡ point_of (column m 5 p) (column m 6 p) (column m 7 p)
    → r ≡ holds o second (patterns x) → r ≡ holds_at o second m q
held_in o second m {p} {q} f is e h = held o second m p (subst (FiniteAt m) (sym is) f) e h ∙ ap (holds_at o second m) is

-- A QUEUE'S PART: no place before i passes
pub record Looking (t : ℕ → Bool) (order : List ℕ) (from i : ℕ) : Type 0 where
  pub i_from : from ≤ i
  pub before : (k : ℕ) → from ≤ k → k < i → t (get_or order k 0) ≡ false

pub looking_start : (t : ℕ → Bool) (order : List ℕ) (from : ℕ) → Looking t order from from
looking_start t order from = record { i_from = omega arith; before = λ k a b. absurd (omega arith) }

module _ {t : ℕ → Bool} {order : List ℕ} {from i : ℕ} (w : Looking t order from i) where
  pub looking_next : {r : Bool} → r ≡ t (get_or order i 0) → r ≡ false → Looking t order from (i + 1)
  looking_next e no_more = record {
    i_from = omega (arith, w.i_from);
    before = λ k a b. ⊎_elim (λ same. ap (λ (x : ℕ). t (get_or order x 0)) same ∙ sym e ∙ no_more) (λ below. w.before k a below) (last_or_below b);
  }

  pub looked_found : (to : ℕ) → i < to → {r : Bool} → r ≡ t (get_or order i 0) → r ≡ true → SomePicked t order from to true
  looked_found to h e done = record { found = λ s. (i, w.i_from, h, sym e ∙ done); nothing = λ s. absurd (true≢false s) }

  pub looked_all : (to : ℕ) → to ≤ i → SomePicked t order from to false
  looked_all to h = record { found = λ s. absurd (true≢false (sym s)); nothing = λ s k a b. w.before k a (omega arith) }

-- HOW MANY of the first p places pass
abbrev pub count_below : (ℕ → Bool) → ℕ → ℕ
count_below t p = length (keep t (tab (λ x. x) p))

pub count_few : (t : ℕ → Bool) (p : ℕ) → count_below t p ≤ p
count_few t p = omega (arith, keep_le t (tab (λ x. x) p), length_tab (λ (x : ℕ). x) p)

more_places : (t : ℕ → Bool) (p : ℕ) → count_below t (p + 1) ≡ count_below t p + length (keep t (p ∷ []))
more_places t p = ap (count_below t) (add-one p) ∙ ap (λ (l : List ℕ). length (keep t l)) (sym (tab_more (λ x. x) p))
    ∙ ap length (keep_append t (tab (λ x. x) p) (p ∷ [])) ∙ length-append (keep t (tab (λ x. x) p)) (keep t (p ∷ []))

pub count_yes : (t : ℕ → Bool) (p c : ℕ) → c ≡ count_below t p → t p ≡ true → c + 1 ≡ count_below t (p + 1)
count_yes t p c e h = let one : length (keep t (p ∷ [])) ≡ 1 = rw h refl in omega (arith, more_places t p)

pub count_no : (t : ℕ → Bool) (p c : ℕ) → c ≡ count_below t p → t p ≡ false → c ≡ count_below t (p + 1)
count_no t p c e h = let none : length (keep t (p ∷ [])) ≡ 0 = rw h refl in omega (arith, more_places t p)

pub not_zero : (s : List ℕ) (p x : ℕ) → x ≡ get_or s p 0 → (x ≡ 0 → ⊥) → ltb 0 (get_or s p 0) ≡ true
not_zero s p x e h = lt-ltb 0 (get_or s p 0) (omega arith)

pub is_zero : (s : List ℕ) (p x : ℕ) → x ≡ get_or s p 0 → x ≡ 0 → ltb 0 (get_or s p 0) ≡ false
is_zero s p x e h = let z : get_or s p 0 ≡ 0 = sym e ∙ h in rw z refl

-- ALL PLACES: those below p are measured
pub record Measuring (o : Oracle) (m : List ℕ) (sizes marks order : List ℕ) (tail p : ℕ) : Type 0 where
  pub through : Through m p marks order tail
  pub p_le : p ≤ get_or m 2 0
  pub len : get_or m 2 0 ≤ length sizes
  pub told : (q : ℕ) → q < p → get_or sizes q 0 ≡ picked_size o m q

no_marks : (n : ℕ) (f g : ℕ → ℕ) (marks order : List ℕ) → n ≤ length marks → Clear marks → n ≤ length order → Marking n f g marks order 0
no_marks n f g marks order lm clear lo = record {
  len_marks = lm;
  len_order = lo;
  fits = omega arith;
  bits = λ p. omega (arith, clear p);
  count = sym (sum_marks [] marks zero (λ p. p) (omega arith) (λ p l. absurd (omega arith)) (λ p l. clear p));
  once = refl;
  queued = λ k h. absurd (omega arith);
  back = λ p h. absurd (omega (arith, clear p));
  closed_f = λ p l h. absurd (omega (arith, clear p));
  closed_g = λ p l h. absurd (omega (arith, clear p));
}

pub measuring_start : (o : Oracle) (m sizes marks order : List ℕ) → get_or m 2 0 ≤ length sizes → get_or m 2 0 ≤ length marks → Clear marks → get_or m 2 0 ≤ length order
    → Measuring o m sizes marks order 0 0
measuring_start o m sizes marks order ls lm clear lo = record {
  through = record {
    marking = no_marks (get_or m 2 0) (column m 1) (column m 2) marks order lm clear lo;
    covered = λ q l. absurd (omega arith);
    behind = λ q h. absurd (omega (arith, clear q));
  };
  p_le = omega arith;
  len = ls;
  told = λ q l. absurd (omega arith);
}

pub measuring_next : {o : Oracle} {m sizes marks order : List ℕ} {tail p : ℕ} → Measuring o m sizes marks order tail p → p < get_or m 2 0
    → {marks' order' : List ℕ} {tail' : ℕ} → Through m (p + 1) marks' order' tail' → {x : ℕ} → x ≡ picked_size o m p → Measuring o m (set sizes p x) marks' order' tail' (p + 1)
measuring_next {o} {m} {sizes} {marks} {order} {tail} {p} w h t {x} e = record {
  through = t;
  p_le = omega arith;
  len = simp length-set w.len;
  told = λ q l. ⊎_elim
      (λ same. ap (λ (y : ℕ). get_or (set sizes p x) y 0) same ∙ get_or-set_same sizes p x 0 (omega (arith, w.len)) ∙ e ∙ ap (picked_size o m) (sym same))
      (λ below. get_or-set_other sizes p q x 0 (λ same. omega arith) ∙ w.told q below)
      (last_or_below l);
}

pub measured_all : {o : Oracle} {m sizes marks order : List ℕ} {tail p : ℕ} → Measuring o m sizes marks order tail p → get_or m 2 0 ≤ p → Sizes o m sizes
measured_all w h = record { len = w.len; entry = λ q l. w.told q (omega arith) }

-- A SOUND BLOCK'S MEMORY can be walked
pub walkable : (m : List ℕ) → holds_block m ≡ true → Walkable m
walkable m ok = record { linked = (sited m ok).linked; finite_at = λ p h. finite_at m p ((image_passed m ok).finite_points p h) }

-- how many picked volumes by a table of sizes
pub picked_count : (o : Oracle) (m s : List ℕ) → holds_block m ≡ true → Sizes o m s → {c : ℕ} → c ≡ count_below (λ p. ltb 0 (get_or s p 0)) (get_or m 2 0)
    → (c ≡ length (picked o (block_in m).darts)) × (c ≤ room)
picked_count o m s ok z e = (
  e ∙ ap length (keep_cong (λ p. ltb 0 (get_or s p 0)) (λ p. ltb 0 (picked_size o m p)) (places (get_or m 2 0)) (λ p k. ap (ltb 0) (z.entry p (places_below (get_or m 2 0) p k))))
      ∙ sym (length-map (keep (λ p. ltb 0 (picked_size o m p)) (places (get_or m 2 0))) (column m 0)) ∙ ap length (sym (picked_places o m ok)),
  omega (arith, count_few (λ p. ltb 0 (get_or s p 0)) (get_or m 2 0), (sited m ok).linked.few),
)
