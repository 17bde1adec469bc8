-- Marks of the codes that faces have, by their index. Assumes nothing.
use mathlib.Core.Path.{◌≡◌, sym, ◌∙◌, ap}
use mathlib.Core.Bool.{Bool, true, ◌&&◌}
use mathlib.Core.List.{List}
use Prim.Native.Nat.{ℕ, ◌≤◌, ◌<◌}
use native.Mathlib.Omega.{arith}
use lib.Dec.{eqb}
use lib.ListN.{length, get_or, set, take}
use lib.Seq.{get_or-set_same, get_or-set_other}
use borrow.Author.Tests.{eqb-true, eq-eqb}
use Rattle.model.specs.Lists.{all, mem, tab, index_of}
use Rattle.laws.proofs.Tests.{by_cases, and_intro, and_left, and_right, same_truth}
use Rattle.laws.proofs.Tables.{tab_any, any_tab, index_place, index_held, tab_take}
use Rattle.columns.specs.Columns.{all_below}
use Rattle.columns.proofs.Below.{all_tests}
use Rattle.cells.specs.Places.{Clear, Assigned}
use Rattle.cells.proofs.Walks.{eq_or_ne}
use Rattle.departure.specs.ByPlaces.{critical_with}
use Rattle.redirect.specs.ByPlaces.{face_code, names_at, Ready, code_index, Unset, LeastIndexed, HitsAre, all_hit, EachNamed}

-- MARKS, beside a table of indices that is filled face by face
pub record Hitting (index : ℕ → ℕ) (n : ℕ) (table hits : List ℕ) : Type 0 where
  pub only : (k : ℕ) → get_or hits k 0 ≡ 1 → (p : ℕ) × (p < n) × (index p ≡ k)
  pub marked : (p : ℕ) → p < n → get_or table p 0 < 4097 → get_or hits (get_or table p 0) 0 ≡ 1

pub hitting_start : (index : ℕ → ℕ) {n : ℕ} {table hits : List ℕ} → Unset n table → Clear hits → Hitting index n table hits
hitting_start index {n} {table} {hits} unset clear = record {
  only = λ k h. absurd (omega (arith, clear k));
  marked = λ p h l. absurd (omega (arith, unset p h));
}

-- a face gets its index, which is marked
pub hitting_face : {index : ℕ → ℕ} {n p k : ℕ} {f table table' hits : List ℕ} → Hitting index n table hits → p < n → k ≡ index p → k < length hits
    → Assigned k f table table' → Hitting index n table' (set hits k 1)
hitting_face {index} {n} {p} {k} {f} {table} {table'} {hits} w below e h d = record {
  only = λ j t. eq_or_ne j k (λ s. (p, below, sym e ∙ sym s)) (λ s. w.only j (sym (get_or-set_other hits k j 1 0 s) ∙ t));
  marked = λ q l less. by_cases (mem q f)
      (λ i. at_k (d.value q ∙ rw i))
      (λ i. let old : get_or table' q 0 ≡ get_or table q 0 = d.value q ∙ rw i in
      eq_or_ne (get_or table' q 0) k at_k (λ s. get_or-set_other hits k (get_or table' q 0) 1 0 s ∙ ap (λ (j : ℕ). get_or hits j 0) old ∙ w.marked q l (omega (arith, less, old))));
}
  where
    at_k : {j : ℕ} → j ≡ k → get_or (set hits k 1) j 0 ≡ 1
    at_k s = ap (λ (i : ℕ). get_or (set hits k 1) i 0) s ∙ get_or-set_same hits k 1 0 h

pub hitting_end : {index : ℕ → ℕ} {n : ℕ} {table hits : List ℕ} → LeastIndexed index n table → Hitting index n table hits → HitsAre index n hits
hitting_end {index} {n} {table} {hits} d w = record {
  only = w.only;
  marked = λ p h l. ap (λ (j : ℕ). get_or hits j 0) (sym (d.index_is p h)) ∙ w.marked p h (omega (arith, d.index_is p h, l));
}

-- each code is marked where a face has it
module _ (m : List ℕ) (from : ℕ) {codes : List ℕ} {c : ℕ} (ready : Ready codes c) where
  found : (q k : ℕ) → k < c → code_index m from codes c q ≡ k → (critical_with m from q ≡ true) × (face_code m q ≡ get_or codes k 0)
  unfolding code_index
  found q k h e = by_cases (critical_with m from q)
      (λ t. let i : index_of (face_code m q) (tab (λ j. get_or codes j 0) c) ≡ k = rw t at e in
      (t, sym (sym (ap (λ j. get_or codes j 0) i) ∙ index_held (λ j. get_or codes j 0) c (face_code m q) (omega arith))))
      (λ t. let i : 4097 ≡ k = rw t at e in absurd (omega (arith, i, h, ready.few)))

  finds : (q k : ℕ) → k < c → critical_with m from q ≡ true → face_code m q ≡ get_or codes k 0 → code_index m from codes c q ≡ k
  unfolding code_index
  finds q k h t e = rw t (ap (λ (x : ℕ). index_of x (tab (λ j. get_or codes j 0) c)) e ∙ index_place (λ j. get_or codes j 0) c k ready.ascends h)

  hits_names : {hits : List ℕ} → HitsAre (code_index m from codes c) (get_or m 2 0) hits → all_hit hits c ≡ all (names_at m from) (take c codes)
  hits_names {hits} w =
      all_tests (names_at m from) (λ k. get_or codes k 0) (λ k. eqb (get_or hits k 0) 1) c (λ k h. sym (same_truth (eqb (get_or hits k 0) 1) (names_at m from (get_or codes k 0)) (yes_of k h) (hit_of k h)))
      ∙ ap (all (names_at m from)) (tab_take codes c (let a = ready.few in let b = ready.size in omega arith))
    where
      yes_of : (k : ℕ) → k < c → eqb (get_or hits k 0) 1 ≡ true → names_at m from (get_or codes k 0) ≡ true
      yes_of k h t =
          let r = w.only k (eqb-true (get_or hits k 0) 1 t) in
          let f = found r.0 k h r.2 in
          tab_any (λ q. critical_with m from q && eqb (face_code m q) (get_or codes k 0)) (λ q. q) (get_or m 2 0) r.0 r.1 (and_intro f.0 (eq-eqb (face_code m r.0) (get_or codes k 0) f.1))

      hit_of : (k : ℕ) → k < c → names_at m from (get_or codes k 0) ≡ true → eqb (get_or hits k 0) 1 ≡ true
      hit_of k h t =
          let r = any_tab (λ q. critical_with m from q && eqb (face_code m q) (get_or codes k 0)) (λ q. q) (get_or m 2 0) t in
          let i = finds r.0 k h (and_left (critical_with m from r.0) _ r.2) (eqb-true (face_code m r.0) (get_or codes k 0) (and_right (critical_with m from r.0) _ r.2)) in
          eq-eqb (get_or hits k 0) 1 (ap (λ (j : ℕ). get_or hits j 0) (sym i) ∙ w.marked r.0 r.1 (omega (arith, i, h, ready.few)))

  -- what table and marks say
  pub each_named : {table hits : List ℕ} {n : ℕ} {r : Bool} → n ≡ get_or m 2 0 → LeastIndexed (code_index m from codes c) n table
      → HitsAre (code_index m from codes c) n hits → r ≡ all_hit hits c → EachNamed m from codes c table r
  each_named {table} {hits} {n} {r} e d w k = record { said = k ∙ hits_names (rw e at w); indexed = rw e at d }

-- ALL PASSED
pub all_below_end : (t : ℕ → Bool) {k n : ℕ} {ok : Bool} → k ≤ n → n ≤ k → ok ≡ all_below t k → ok ≡ all_below t n
all_below_end t {k} {n} a b e = let s : k ≡ n = omega arith in e ∙ ap (all_below t) s
