-- The loops over indices, step by step. Assumes nothing.
use mathlib.Core.Path.{◌≡◌, refl, sym, ◌∙◌, ap, subst}
use mathlib.Core.Bool.{Bool, true, false, true≢false, not, ◌&&◌, ◌||◌}
use mathlib.Core.List.{List, [], ◌∷◌, ◌++◌}
use mathlib.Core.Logic.{⊎_elim}
use Prim.Native.Nat.{ℕ, suc, ◌+◌, ◌-◌, ◌≤◌, ◌<◌, ◌^◌}
use native.Mathlib.Omega.{arith}
use lib.Dec.{leb, ltb, eqb}
use lib.ListN.{length, get_or, take, set, length-set}
use lib.Seq.{take-suc-set, get_or-take}
use borrow.Author.Tests.{lt-leb, le-leb, eq-eqb, ne_eqb}
use Rattle.model.specs.Lists.{all, distinct, tab}
use Rattle.laws.proofs.Tests.{by_cases, last_or_below, and_false}
use Rattle.laws.proofs.Maps.{tab_more}
use Rattle.laws.proofs.Tables.{getD_tab, tab_all, all_tab}
use Rattle.ranking.specs.Ranks.{Ranked}
use Rattle.arrival.specs.Sides.{next_index, order_at, pair_at, edge_at, ends_differ, Segments, VerticesSmall}
use Rattle.arrival.specs.Draft.{Edged, EdgesPaired}
use Rattle.arrival.proofs.EdgeLaws.{edge_small, distinct_edges, edged_is, edged_opposed}
use Rattle.arrival.proofs.SegmentLaws.{next_below}

-- A TEST OF EACH INDEX: those before i pass
pub record Passing (p : ℕ → Bool) (i : ℕ) : Type 0 where
  pub each : (j : ℕ) → j < i → p j ≡ true

pub passing_none : (p : ℕ → Bool) → Passing p 0
passing_none p = record { each = λ j h. absurd (omega (arith, h)) }

pub passing_more : {p : ℕ → Bool} {i : ℕ} → Passing p i → p i ≡ true → Passing p (i + 1)
passing_more {p} {i} w t = record { each = λ j h. ⊎_elim (λ (e : j ≡ i). ap p e ∙ t) (λ (l : j < i). w.each j l) (last_or_below h) }

pub passing_all : {p : ℕ → Bool} {i k : ℕ} → Passing p i → k ≤ i → true ≡ all p (tab (λ j. j) k)
passing_all {p} {i} {k} w h = sym (tab_all p (λ j. j) k (λ j l. w.each j (omega (arith, h, l))))

pub passing_not : (p : ℕ → Bool) (i k : ℕ) → i < k → p i ≡ false → false ≡ all p (tab (λ j. j) k)
passing_not p i k h e = by_cases (all p (tab (λ j. j) k)) (λ t. absurd (true≢false (sym (all_tab p (λ j. j) k t i h) ∙ e))) (λ t. sym t)

-- ONE INDEX in message order; s is its face's start
module _ (x b : List ℕ) (i : ℕ) {s : ℕ} (start : s ≡ get_or b i 0) where
  pub order_low : get_or x i 0 < get_or x s 0 → false ≡ order_at x b i
  order_low h = rw (lt-leb (get_or x (get_or b i 0) 0) (get_or x i 0) (subst (λ (j : ℕ). get_or x i 0 < get_or x j 0) start h)) refl

  module _ (high : get_or x s 0 ≤ get_or x i 0) where
    first : leb (get_or x (get_or b i 0) 0) (get_or x i 0) ≡ true
    first = le-leb (get_or x (get_or b i 0) 0) (get_or x i 0) (subst (λ (j : ℕ). get_or x j 0 ≤ get_or x i 0) start high)

    pub order_inner : (s ≡ i → ⊥) → true ≡ order_at x b i
    order_inner d = rw (first, ne_eqb (get_or b i 0) i (λ e. d (start ∙ e))) refl

    pub order_first : i ≡ 0 → true ≡ order_at x b i
    order_first e = rw (first, eq-eqb i 0 e, le-leb 0 (get_or x i 0) (omega arith)) (or_true (not (eqb (get_or b i 0) i)))
      where
        or_true : (a : Bool) → true ≡ (a || true)
        or_true true = refl
        or_true false = refl

    pub order_start : s ≡ i → (i ≡ 0 → ⊥) → {t : ℕ} → t ≡ get_or b (i - 1) 0 → ltb (get_or x t 0) (get_or x i 0) ≡ order_at x b i
    order_start e d {t} before = ap (λ (j : ℕ). ltb (get_or x j 0) (get_or x i 0)) before ∙ rw (first, eq-eqb (get_or b i 0) i (sym start ∙ e), ne_eqb i 0 d) refl

-- A COUNT AND A TEST: what a test tells where the count fits, and where it does not
pub few_not : (n k : ℕ) (a : Bool) → k < n → false ≡ (leb n k && a)
few_not n k a h = rw (lt-leb n k h) refl

pub few_then : (n k : ℕ) (a : Bool) {r : Bool} → n ≤ k → r ≡ a → r ≡ (leb n k && a)
few_then n k a h e = rw (le-leb n k h) e

-- THE NEXT INDEX
pub next_last : (b z : List ℕ) (i : ℕ) → suc i ≡ get_or b i 0 + get_or z i 0 → get_or b i 0 ≡ next_index b z i
next_last b z i e = rw (eq-eqb (suc i) (get_or b i 0 + get_or z i 0) e) refl

pub next_inner : (b z : List ℕ) (i : ℕ) → (suc i ≡ get_or b i 0 + get_or z i 0 → ⊥) → i + 1 ≡ next_index b z i
next_inner b z i d = rw (ne_eqb (suc i) (get_or b i 0 + get_or z i 0) d) (omega arith)

-- THE PAIRS ARE PUT
all_one_more : (p : ℕ → Bool) (l : List ℕ) (x : ℕ) → all p (l ++ x ∷ []) ≡ (all p l && p x)
all_one_more p [] x = and_true (p x)
  where
    and_true : (a : Bool) → (a && true) ≡ a
    and_true true = refl
    and_true false = refl
all_one_more p (y ∷ l) x = by_cases (p y) (λ e. rw e (all_one_more p l x)) (λ e. rw e refl)

pub record Pairing (v b z : List ℕ) (k : ℕ) (pairs : List ℕ) (ok : Bool) (i : ℕ) : Type 0 where
  pub le : i ≤ k
  pub len : k ≤ length pairs
  pub front : take i pairs ≡ tab (edge_at v b z) i
  pub ok_is : ok ≡ all (ends_differ v b z) (tab (λ j. j) i)

pub pairing_none : (v b z : List ℕ) (k : ℕ) {pairs : List ℕ} → k ≤ length pairs → Pairing v b z k pairs true 0
pairing_none v b z k e = record { le = omega arith; len = e; front = refl; ok_is = refl }

pub pairing_more : {v b z : List ℕ} {k : ℕ} {pairs : List ℕ} {ok : Bool} {i c : ℕ} {more : Bool} → Pairing v b z k pairs ok i → i < k
    → c ≡ edge_at v b z i → more ≡ (ok && ends_differ v b z i) → Pairing v b z k (set pairs i c) more (i + 1)
pairing_more {v} {b} {z} {k} {pairs} {ok} {i} {c} w h e o =
    let s : i + 1 ≡ suc i = omega arith in
    record {
      le = omega arith;
      len = omega (arith, length-set pairs i c, w.len);
      front = rw s (take-suc-set pairs i c (omega (arith, w.len)) ∙ ap (λ (l : List ℕ). l ++ c ∷ []) w.front ∙ rw e (tab_more (edge_at v b z) i));
      ok_is = rw s (o ∙ ap (λ (a : Bool). a && ends_differ v b z i) w.ok_is ∙ sym (all_one_more (ends_differ v b z) (tab (λ j. j) i) i) ∙ ap (all (ends_differ v b z)) (tab_more (λ j. j) i));
    }

pub pairing_all : {v b z : List ℕ} {k : ℕ} {pairs : List ℕ} {ok : Bool} {i : ℕ} → Pairing v b z k pairs ok i → k ≤ i
    → (ok ≡ all (ends_differ v b z) (tab (λ j. j) k)) × (take k pairs ≡ tab (edge_at v b z) k)
pairing_all {v} {b} {z} {k} {pairs} {ok} {i} w h = let e : i ≡ k = omega (arith, w.le, h) in (rw (sym e) w.ok_is, rw (sym e) w.front)

-- ALL OF THE PAIRS
module _ (v b z : List ℕ) (k : ℕ) where
  pub paired_ends : {q : List ℕ} → all (ends_differ v b z) (tab (λ i. i) k) ≡ false → EdgesPaired v b z k q false
  paired_ends e = record { is = rw e refl; opposed = λ y. absurd (true≢false (sym y)) }

  module _ (seg : Segments b z k) (small : VerticesSmall v k) (pairs : List ℕ) (are : take k pairs ≡ tab (edge_at v b z) k) where
    once : distinct (take k pairs) ≡ distinct (tab (pair_at v b z) k)
    once = ap distinct are ∙ distinct_edges v seg small

    pub paired_twice : {q : List ℕ} → distinct (take k pairs) ≡ false → EdgesPaired v b z k q false
    paired_twice e = record { is = rw (sym once ∙ e, and_false (all (ends_differ v b z) (tab (λ i. i) k))) refl; opposed = λ y. absurd (true≢false (sym y)) }

    pub paired_found : {keys ranks q : List ℕ} {r : Bool} → all (ends_differ v b z) (tab (λ i. i) k) ≡ true → distinct (take k pairs) ≡ true
        → Ranked pairs k keys ranks → Edged keys k q r → EdgesPaired v b z k q r
    paired_found {keys} {ranks} {q} {r} e d w c = record { is = rw (e, sym once ∙ d) (edged_is v seg small are w c apart); opposed = edged_opposed v seg small are w c }
      where
        apart : (i : ℕ) → i < k → get_or v i 0 ≡ get_or v (next_index b z i) 0 → ⊥
        apart i h s = true≢false (sym (all_tab (ends_differ v b z) (λ i. i) k e i h) ∙ rw (eq-eqb (get_or v i 0) (get_or v (next_index b z i) 0) s) refl)

    -- a pair is a small number
    pub pair_fits : (i : ℕ) → i < k → get_or pairs i 0 < 2 ^ 54
    pair_fits i h =
        let e : get_or pairs i 0 ≡ edge_at v b z i = sym (get_or-take k pairs i 0 h) ∙ ap (λ (l : List ℕ). get_or l i 0) are ∙ getD_tab (edge_at v b z) k i 0 h in
        let most = edge_small (get_or v i 0) (get_or v (next_index b z i) 0) (small i h) (small (next_index b z i) (next_below seg i h)) in
        omega (arith, e, most)
