-- A pair and its reverse are neighbours among the pairs in order: edges, by the numbers of their ends. Assumes nothing.
use mathlib.Core.Path.{◌≡◌, refl, sym, ◌∙◌, ap, subst}
use mathlib.Core.Logic.{◌≢◌, ⊎_elim}
use mathlib.Core.Bool.{Bool, true, false, true≢false}
use mathlib.Core.List.{List}
use Prim.Native.Nat.{ℕ, ◌+◌, ◌-◌, ◌*◌, ◌/◌, ◌%◌, ◌≤◌, ◌<◌}
use native.Mathlib.Nat.{eq-or-lt_of_le}
use native.Mathlib.Omega.{arith}
use lib.Dec.{eqb}
use lib.ListN.{length, get_or, take, set, length-set}
use lib.Seq.{get_or-take, get_or-set_same, get_or-set_other}
use borrow.Author.Tests.{lt-ltb, le-ltb, eq-eqb, ne_eqb}
use Rattle.laws.specs.Order.{Ascending}
use Rattle.model.specs.Lists.{all, mem, distinct, tab}
use Rattle.model.specs.Values.{message_darts}
use Rattle.laws.proofs.Tests.{by_cases, eq_or_ne, lt_or_ge, same_truth}
use Rattle.laws.proofs.Tables.{getD_tab, tab_all, all_tab, mem_place, mem_none, tab_apart, tab_distinct}
use Rattle.ranking.specs.Ranks.{value_at, index_at, Ranked}
use Rattle.arrival.specs.Sides.{next_index, pair_code, pair_at, reverse_at, edge_code, edge_at, Segments, VerticesSmall}
use Rattle.arrival.specs.Draft.{Opposed, Edged}
use Rattle.arrival.proofs.SegmentLaws.{next_below}

-- ONE PAIR: its number, by the lesser end
pub edge_round : (a c : ℕ) → c < a → (c * 1024 + a) * 2 + 1 ≡ edge_code a c
edge_round a c h = rw (lt-ltb c a h) refl

pub edge_kept : (a c : ℕ) → a ≤ c → (a * 1024 + c) * 2 ≡ edge_code a c
edge_kept a c h = rw (le-ltb c a h) refl

data Turned (a c x : ℕ) : Type 0 where
  kept : a ≤ c → x ≡ (a * 1024 + c) * 2 → Turned a c x
  round : c < a → x ≡ (c * 1024 + a) * 2 + 1 → Turned a c x

turned : (a c : ℕ) → Turned a c (edge_code a c)
turned a c = ⊎_elim (λ h. round h (sym (edge_round a c h))) (λ h. kept h (sym (edge_kept a c h))) (lt_or_ge c a)

pub edge_small : (a c : ℕ) → a ≤ message_darts → c ≤ message_darts → edge_code a c < 2097152
edge_small a c la lc = go (turned a c)
  where
    go : {x : ℕ} → Turned a c x → x < 2097152
    go (kept h e) = omega (arith, e, la, lc)
    go (round h e) = omega (arith, e, la, lc)

module _ {a c d f : ℕ} (la : a ≤ message_darts) (lc : c ≤ message_darts) (ld : d ≤ message_darts) (lf : f ≤ message_darts) where
  same_ends : {x y : ℕ} → Turned a c x → Turned d f y → x ≡ y → pair_code a c ≡ pair_code d f
  same_ends (kept h e) (kept k g) s = omega (arith, e, g, s)
  same_ends (kept h e) (round k g) s = absurd (omega (arith, e, g, s))
  same_ends (round h e) (kept k g) s = absurd (omega (arith, e, g, s))
  same_ends (round h e) (round k g) s = let p : c ≡ f = omega (arith, e, g, s, la, ld) in omega (arith, e, g, s, p)

  other_end : {x y : ℕ} → Turned a c x → Turned d f y → x / 2 ≡ y / 2 → x ≢ y → pair_code c a ≡ pair_code d f
  other_end (kept h e) (kept k g) s n = absurd (n (omega (arith, e, g, s)))
  other_end (kept h e) (round k g) s n = let p : a ≡ f = omega (arith, e, g, s, lc, ld) in omega (arith, e, g, s, p)
  other_end (round h e) (kept k g) s n = let p : c ≡ d = omega (arith, e, g, s, la, lf) in omega (arith, e, g, s, p)
  other_end (round h e) (round k g) s n = absurd (n (omega (arith, e, g, s)))

  half_same : {x y : ℕ} → Turned a c x → Turned d f y → pair_code c a ≡ pair_code d f → a ≢ c → (x / 2 ≡ y / 2) × (x ≢ y)
  half_same (kept h e) (kept k g) s n = let p : c ≡ d = omega (arith, s, la, lf) in absurd (n (omega (arith, s, h, k, p)))
  half_same (kept h e) (round k g) s n = let p : c ≡ d = omega (arith, s, la, lf) in (omega (arith, e, g, s, p), λ q. omega (arith, e, g, q))
  half_same (round h e) (kept k g) s n = let p : c ≡ d = omega (arith, s, la, lf) in (omega (arith, e, g, s, p), λ q. omega (arith, e, g, q))
  half_same (round h e) (round k g) s n = let p : c ≡ d = omega (arith, s, la, lf) in absurd (omega (arith, s, h, k, p))

  ends_same : pair_code a c ≡ pair_code d f → edge_code a c ≡ edge_code d f
  ends_same s = let p : a ≡ d = omega (arith, s, la, lc, ld, lf) in let q : c ≡ f = omega (arith, s, la, lc, ld, lf) in rw (p, q) refl

-- PAIRS BY INDEX
module _ (v : List ℕ) {b z : List ℕ} {k : ℕ} (seg : Segments b z k) (small : VerticesSmall v k) where
  head_small : (i : ℕ) → i < k → get_or v (next_index b z i) 0 ≤ message_darts
  head_small i h = small (next_index b z i) (next_below seg i h)

  pub distinct_edges : distinct (tab (edge_at v b z) k) ≡ distinct (tab (pair_at v b z) k)
  distinct_edges = same_truth _ _
      (λ t. tab_distinct (pair_at v b z) k (λ i j h l e. tab_apart (edge_at v b z) k t i j h l (ends_same (small i h) (head_small i h) (small j l) (head_small j l) e)))
      (λ t. tab_distinct (edge_at v b z) k (λ i j h l e. tab_apart (pair_at v b z) k t i j h l (same_ends (small i h) (head_small i h) (small j l) (head_small j l) (turned _ _) (turned _ _) e)))

  -- edges of ranks are darts that are opposite
  module _ {pairs keys ranks : List ℕ} (are : take k pairs ≡ tab (edge_at v b z) k) (w : Ranked pairs k keys ranks) where
    value_of : (p : ℕ) → p < k → value_at keys p ≡ edge_at v b z (index_at keys p)
    value_of p h = let l = w.index_below p h in
        w.value_is p h ∙ sym (get_or-take k pairs (index_at keys p) 0 l) ∙ ap (λ (m : List ℕ). get_or m (index_at keys p) 0) are ∙ getD_tab (edge_at v b z) k (index_at keys p) 0 l

    value_here : (i : ℕ) → i < k → value_at keys (get_or ranks i 0) ≡ edge_at v b z i
    value_here i h = value_of (get_or ranks i 0) (w.rank_below i h) ∙ ap (edge_at v b z) (w.index_rank i h)

    module _ {q : List ℕ} {r : Bool} (c : Edged keys k q r) where
      met : r ≡ true → (i : ℕ) → i < k → (get_or q i 0 < k) × (reverse_at v b z i ≡ pair_at v b z (get_or q i 0))
      met y i h =
          let p = get_or ranks i 0 in
          let t = c.yes y p (w.rank_below i h) in
          let s = t.0 in
          let j = index_at keys s in
          let l : j < k = w.index_below s t.1 in
          let e : get_or q i 0 ≡ j = ap (λ (n : ℕ). get_or q n 0) (sym (w.index_rank i h)) ∙ t.4 in
          let half : edge_at v b z i / 2 ≡ edge_at v b z j / 2 = ap (λ (n : ℕ). n / 2) (sym (value_here i h)) ∙ t.2 ∙ ap (λ (n : ℕ). n / 2) (value_of s t.1) in
          let other : edge_at v b z i ≢ edge_at v b z j = λ n. t.3 (value_here i h ∙ n ∙ sym (value_of s t.1)) in
          rw e (l, other_end (small i h) (head_small i h) (small j l) (head_small j l) (turned _ _) (turned _ _) half other)

      pub edged_opposed : r ≡ true → Opposed v b z k q
      edged_opposed y = record { below = λ i h. (met y i h).0; reversed = λ i h. (met y i h).1 }

      edged_yes : r ≡ true → all (λ i. mem (reverse_at v b z i) (tab (pair_at v b z) k)) (tab (λ i. i) k) ≡ true
      edged_yes y = tab_all _ (λ i. i) k (λ i h. let t = met y i h in mem_place (pair_at v b z) k (get_or q i 0) (reverse_at v b z i) t.0 (sym t.1))

      module _ (apart : (i : ℕ) → i < k → get_or v i 0 ≡ get_or v (next_index b z i) 0 → ⊥) where
        alone : r ≡ false → (i : ℕ) × (i < k) × (mem (reverse_at v b z i) (tab (pair_at v b z) k) ≡ false)
        alone y =
            let t = c.no y in
            let p = t.0 in
            let i = index_at keys p in
            let h : i < k = w.index_below p t.1 in (
              i,
              h,
              mem_none (pair_at v b z) k (reverse_at v b z i) (λ j l e.
                  let n = half_same (small i h) (head_small i h) (small j l) (head_small j l) (turned _ _) (turned _ _) (sym e) (apart i h) in
                  n.1
                  (sym (value_of p t.1) ∙ t.2 (get_or ranks j 0) (w.rank_below j l) (ap (λ (m : ℕ). m / 2) (value_of p t.1) ∙ n.0 ∙ ap (λ (m : ℕ). m / 2) (sym (value_here j l))) ∙ value_here j l)),
            )

        pub edged_is : r ≡ all (λ i. mem (reverse_at v b z i) (tab (pair_at v b z) k)) (tab (λ i. i) k)
        edged_is = same_truth _ _ edged_yes (λ t. by_cases r (λ e. e) (λ e. let n = alone e in absurd (true≢false (sym (all_tab _ (λ i. i) k t n.0 n.1) ∙ n.2))))

-- keys of different ranks are of different indices
pub ranked_apart : {pairs : List ℕ} {k : ℕ} {keys ranks : List ℕ} → Ranked pairs k keys ranks → (p s : ℕ) → p < k → s < k → index_at keys p ≡ index_at keys s → p ≡ s
ranked_apart {pairs} {k} {keys} {ranks} w p s h l e = sym (w.rank_index p h) ∙ ap (λ (i : ℕ). get_or ranks i 0) e ∙ w.rank_index s l

-- KEYS IN COUPLES: those below r are, two by two
pub record Coupling (keys : List ℕ) (k : ℕ) (q : List ℕ) (r : ℕ) : Type 0 where
  pub inside : (p : ℕ) → p < k → index_at keys p < length q
  pub le : r ≤ k
  pub two : 0 < r → 2 ≤ r
  pub last : 2 ≤ r → value_at keys (r - 2) / 2 ≡ value_at keys (r - 1) / 2
  pub met : (p : ℕ) → p < r → (s : ℕ) × (s < r) × (value_at keys p / 2 ≡ value_at keys s / 2) × (value_at keys p ≢ value_at keys s) × (get_or q (index_at keys p) 0 ≡ index_at keys s)

pub coupling_none : (keys : List ℕ) (k : ℕ) {q : List ℕ} → ((p : ℕ) → p < k → index_at keys p < length q) → Coupling keys k q 0
coupling_none keys k e = record { inside = e; le = omega arith; two = λ h. omega (arith, h); last = λ h. absurd (omega (arith, h)); met = λ p h. absurd (omega (arith, h)) }

module _ {keys : List ℕ} {k : ℕ} {q : List ℕ} {r : ℕ} (up : Ascending k (value_at keys)) (w : Coupling keys k q r) (h : r < k) where
  up_to : (p s : ℕ) → p ≤ s → s < k → value_at keys p ≤ value_at keys s
  up_to p s l m = ⊎_elim (λ e. omega (arith, ap (value_at keys) e)) (λ n. omega (arith, up p s n m)) (eq-or-lt_of_le l)

  -- the key at r has no other: the answer is no
  pub coupling_not : {t : List ℕ} → (r + 1 < k → value_at keys r / 2 ≢ value_at keys (r + 1) / 2) → Edged keys k t false
  coupling_not differ = record { yes = λ e. absurd (true≢false (sym e)); no = λ e. (r, h, only) }
    where
      only : (s : ℕ) → s < k → value_at keys r / 2 ≡ value_at keys s / 2 → value_at keys r ≡ value_at keys s
      only s l e = ⊎_elim
          (λ below. absurd (three below))
          (λ from. ⊎_elim (λ same. ap (value_at keys) same) (λ past. absurd (differ (omega (arith, past, l)) (next past))) (eq-or-lt_of_le from))
          (lt_or_ge s r)
        where
          next : r < s → value_at keys r / 2 ≡ value_at keys (r + 1) / 2
          next past = let a = up r (r + 1) (omega arith) (omega (arith, past, l)) in let b = up_to (r + 1) s (omega (arith, past)) l in omega (arith, a, b, e)

          three : s < r → ⊥
          three below =
              let n = w.two (omega (arith, below)) in
              let a = up_to s (r - 1) (omega (arith, below)) (omega (arith, h)) in
              let b = up (r - 1) r (omega (arith, n)) h in
              let c = up (r - 2) (r - 1) (omega (arith, n)) (omega (arith, h)) in
              omega (arith, a, b, c, e, w.last n)

  -- one edge more
  module _ (more : r + 1 < k) (apart : (p s : ℕ) → p < k → s < k → index_at keys p ≡ index_at keys s → p ≡ s) (same : value_at keys r / 2 ≡ value_at keys (r + 1) / 2) where
    pub coupling_more : {a c : ℕ} → a ≡ index_at keys r → c ≡ index_at keys (r + 1) → Coupling keys k (set (set q a c) c a) (r + 2)
    coupling_more {a} {c} ea ec = record {
      inside = λ p l. omega (arith, length-set (set q a c) c a, length-set q a c, w.inside p l);
      le = omega (arith, more);
      two = λ _. omega arith;
      last = λ _. let x : r + 2 - 2 ≡ r = omega arith in let y : r + 2 - 1 ≡ r + 1 = omega arith in rw (x, y) same;
      met = λ p l. ⊎_elim (before p) (λ from. ⊎_elim (first p) (λ past. second p (omega (arith, past, l))) (eq-or-lt_of_le from)) (lt_or_ge p r);
    }
      where
        rises : value_at keys r < value_at keys (r + 1)
        rises = up r (r + 1) (omega arith) more

        away : (p s : ℕ) → p < k → s < k → p ≢ s → index_at keys p ≢ index_at keys s
        away p s lp ls n e = n (apart p s lp ls e)

        before : (p : ℕ) → p < r
            → (s : ℕ) × (s < r + 2) × (value_at keys p / 2 ≡ value_at keys s / 2) × (value_at keys p ≢ value_at keys s)
            × (get_or (set (set q a c) c a) (index_at keys p) 0 ≡ index_at keys s)
        before p l =
            let m = w.met p l in (
              m.0,
              omega (arith, m.1),
              m.2,
              m.3,
              get_or-set_other (set q a c) c (index_at keys p) a 0 (λ e. away p (r + 1) (omega (arith, l, h)) more (λ n. omega (arith, n, l)) (e ∙ ec))
                  ∙ get_or-set_other q a (index_at keys p) c 0 (λ e. away p r (omega (arith, l, h)) h (λ n. omega (arith, n, l)) (e ∙ ea)) ∙ m.4,
            )

        first : (p : ℕ) → r ≡ p
            → (s : ℕ) × (s < r + 2) × (value_at keys p / 2 ≡ value_at keys s / 2) × (value_at keys p ≢ value_at keys s)
            × (get_or (set (set q a c) c a) (index_at keys p) 0 ≡ index_at keys s)
        first p e = rw (sym e) (
          r + 1,
          omega arith,
          same,
          (λ n. omega (arith, n, rises)),
          get_or-set_other (set q a c) c (index_at keys r) a 0 (λ n. away r (r + 1) h more (λ m. omega (arith, m)) (n ∙ ec))
              ∙ ap (λ (j : ℕ). get_or (set q a c) j 0) (sym ea) ∙ get_or-set_same q a c 0 (omega (arith, ea, w.inside r h)) ∙ ec,
        )

        second : (p : ℕ) → p ≡ r + 1
            → (s : ℕ) × (s < r + 2) × (value_at keys p / 2 ≡ value_at keys s / 2) × (value_at keys p ≢ value_at keys s)
            × (get_or (set (set q a c) c a) (index_at keys p) 0 ≡ index_at keys s)
        second p e = rw e (
          r,
          omega arith,
          sym same,
          (λ n. omega (arith, n, rises)),
          ap (λ (j : ℕ). get_or (set (set q a c) c a) j 0) (sym ec) ∙ get_or-set_same (set q a c) c a 0 (omega (arith, ec, length-set q a c, w.inside (r + 1) more)) ∙ ea,
        )

pub coupling_all : {keys : List ℕ} {k : ℕ} {q : List ℕ} {r : ℕ} → Coupling keys k q r → k ≤ r → Edged keys k q true
coupling_all {keys} {k} {q} {r} w h = record {
  yes = λ _ p l. let m = w.met p (omega (arith, l, h)) in (m.0, omega (arith, m.1, w.le), m.2, m.3, m.4);
  no = λ e. absurd (true≢false e);
}

pub coupled : {keys : List ℕ} {k : ℕ} {q : List ℕ} {r s : ℕ} → r ≡ s → Coupling keys k q r → Coupling keys k q s
coupled {keys} {k} {q} {r} {s} e w = subst (λ (n : ℕ). Coupling keys k q n) e w

-- all pairs are: a last key that stands alone has no other
pub coupling_end : {keys : List ℕ} {k : ℕ} {q : List ℕ} (h : ℕ) → Ascending k (value_at keys) → Coupling keys k q (2 * h) → k / 2 ≤ h → Edged keys k q (eqb (k % 2) 0)
coupling_end {keys} {k} {q} h up w d = ⊎_elim
    (λ e. subst (λ (b : Bool). Edged keys k q b) (sym (eq-eqb (k % 2) 0 e)) (coupling_all w (omega (arith, d, e, w.le))))
    (λ n. subst (λ (b : Bool). Edged keys k q b) (sym (ne_eqb (k % 2) 0 n)) (coupling_not up w (omega (arith, d, n, w.le)) (λ l. absurd (omega (arith, d, l)))))
    (eq_or_ne (k % 2) 0)
