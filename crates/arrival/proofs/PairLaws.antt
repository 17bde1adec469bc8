-- Ordered vertex pairs by index: each once, with the reverse of each. Assumes nothing.
use mathlib.Core.Path.{◌≡◌, refl, sym, ◌∙◌, ap}
use mathlib.Core.Bool.{Bool, true, false, not, ◌&&◌}
use mathlib.Core.List.{List, [], ◌∷◌, map}
use Prim.Native.Nat.{ℕ, ◌+◌, ◌*◌, ◌<◌}
use native.Mathlib.Omega.{arith}
use lib.Dec.{eqb}
use lib.ListN.{get_or}
use borrow.Author.Tests.{eqb-true, eq-eqb}
use Rattle.model.specs.Lists.{all, any, mem, tab, distinct}
use Rattle.model.specs.Links.{same_pair, pairs_once}
use Rattle.model.specs.Arrival.{Side, reverses, pairs_right}
use Rattle.laws.proofs.Tests.{and_intro, and_left, and_right, same_truth}
use Rattle.laws.proofs.Members.{Each, all_map, each_tab}
use Rattle.laws.proofs.Tables.{map_tab, tab_any, any_tab, tab_all, all_tab}
use Rattle.arrival.specs.Sides.{next_index, side_at, pair_code, pair_at, reverse_at, ends_differ, Segments, VerticesSmall}
use Rattle.arrival.proofs.SegmentLaws.{next_below}

-- ends that a code tells apart
abbrev Fit : ℕ × ℕ → Type 0
Fit p = (p.0 < 1024) × (p.1 < 1024)

code_of : ℕ × ℕ → ℕ
code_of p = p.0 * 1024 + p.1

same_code : (p q : ℕ × ℕ) → Fit p → Fit q → same_pair p q ≡ eqb (pair_code p.0 p.1) (pair_code q.0 q.1)
same_code p q f g = same_truth _ _
    (λ t. eq-eqb _ _
    (let a = eqb-true p.0 q.0 (and_left (eqb p.0 q.0) _ t) in let b = eqb-true p.1 q.1
    (and_right (eqb p.0 q.0) _ t) in let r : pair_code p.0 p.1 ≡ pair_code q.0 q.1 = omega (arith, a, b) in r))
    (λ t. let e = eqb-true (pair_code p.0 p.1) (pair_code q.0 q.1) t in
    and_intro (eq-eqb p.0 q.0 (omega (arith, e, f.0, f.1, g.0, g.1))) (eq-eqb p.1 q.1 (omega (arith, e, f.0, f.1, g.0, g.1))))

any_code : (p : ℕ × ℕ) (ps : List (ℕ × ℕ)) → Fit p → Each Fit ps → any (same_pair p) ps ≡ mem (pair_code p.0 p.1) (map (λ q. pair_code q.0 q.1) ps)
any_code p [] f a = refl
any_code p (q ∷ ps) f a = rw (same_code p q f a.0, any_code p ps f a.1) refl

pairs_code : (ps : List (ℕ × ℕ)) → Each Fit ps → pairs_once ps ≡ (all (λ p. not (eqb p.0 p.1)) ps && distinct (map (λ q. pair_code q.0 q.1) ps))
unfolding pairs_once
pairs_code [] a = refl
pairs_code (p ∷ ps) a = rw (any_code p ps a.0 a.1, pairs_code ps a.1) (swap (not (eqb p.0 p.1)) _ _ _)
  where
    swap : (a b c d : Bool) → (a && b && (c && d)) ≡ ((a && c) && (b && d))
    swap true true c d = refl
    swap true false true d = refl
    swap true false false d = refl
    swap false b c d = refl

swap_and : (a c : Bool) → (a && c) ≡ (c && a)
swap_and true true = refl
swap_and true false = refl
swap_and false true = refl
swap_and false false = refl

-- BY INDEX
-- a test of each value is a test of each index
pub all_index : {A : Type 0} (q : A → Bool) (f : ℕ → A) (n : ℕ) → all q (tab f n) ≡ all (λ i. q (f i)) (tab (λ i. i) n)
all_index q f n = ap (all q) (sym (map_tab f (λ i. i) n)) ∙ all_map q f (tab (λ i. i) n)

pub all_same : (p q : ℕ → Bool) (n : ℕ) → ((i : ℕ) → i < n → p i ≡ q i) → all p (tab (λ i. i) n) ≡ all q (tab (λ i. i) n)
all_same p q n h = same_truth _ _
    (λ t. tab_all q (λ i. i) n (λ i l. sym (h i l) ∙ all_tab p (λ i. i) n t i l))
    (λ t. tab_all p (λ i. i) n (λ i l. h i l ∙ all_tab q (λ i. i) n t i l))

any_same : {A B : Type 0} (q : A → Bool) (r : B → Bool) (f : ℕ → A) (g : ℕ → B) (n : ℕ) → ((i : ℕ) → i < n → q (f i) ≡ r (g i)) → any q (tab f n) ≡ any r (tab g n)
any_same q r f g n h = same_truth _ _
    (λ t. let w = any_tab q f n t in tab_any r g n w.0 w.1 (sym (h w.0 w.1) ∙ w.2))
    (λ t. let w = any_tab r g n t in tab_any q f n w.0 w.1 (h w.0 w.1 ∙ w.2))

module _ (v x : List ℕ) {b z : List ℕ} {k : ℕ} (w : Segments b z k) (small : VerticesSmall v k) where
  fits : (i : ℕ) → i < k → Fit (get_or v i 0, get_or v (next_index b z i) 0)
  fits i h =
      let a = small i h in let c = small (next_index b z i) (next_below w i h) in
      ((let r : get_or v i 0 < 1024 = omega (arith, a) in r), (let r : get_or v (next_index b z i) 0 < 1024 = omega (arith, c) in r))

  once_is : pairs_once (map (λ a. (a.tail, a.head)) (tab (side_at v x b z) k)) ≡ (all (ends_differ v b z) (tab (λ i. i) k) && distinct (tab (pair_at v b z) k))
  once_is =
      ap pairs_once (map_tab (λ (a : Side). (a.tail, a.head)) (side_at v x b z) k)
      ∙ pairs_code (tab (λ i. (get_or v i 0, get_or v (next_index b z i) 0)) k) (each_tab Fit _ k fits)
      ∙ rw (
        all_index (λ (p : ℕ × ℕ). not (eqb p.0 p.1)) (λ i. (get_or v i 0, get_or v (next_index b z i) 0)) k,
        map_tab (λ (q : ℕ × ℕ). pair_code q.0 q.1) (λ i. (get_or v i 0, get_or v (next_index b z i) 0)) k,
      ) refl

  -- j reverses i exactly if the pair of j is the reverse of i's
  pub reverses_is : (i j : ℕ) → i < k → j < k → reverses (side_at v x b z i) (side_at v x b z j) ≡ eqb (reverse_at v b z i) (pair_at v b z j)
  unfolding reverses
  reverses_is i j hi hj =
      swap_and (eqb (get_or v i 0) (get_or v (next_index b z j) 0)) (eqb (get_or v (next_index b z i) 0) (get_or v j 0))
      ∙ same_code (get_or v (next_index b z i) 0, get_or v i 0) (get_or v j 0, get_or v (next_index b z j) 0) ((fits i hi).1, (fits i hi).0)
      (fits j hj)

  reversed_is : all (λ a. any (reverses a) (tab (side_at v x b z) k)) (tab (side_at v x b z) k) ≡ all (λ i. mem (reverse_at v b z i) (tab (pair_at v b z) k)) (tab (λ i. i) k)
  reversed_is = all_index _ (side_at v x b z) k ∙ all_same _ _ k (λ i h. any_same _ _ (side_at v x b z) (pair_at v b z) k (λ j l. reverses_is i j h l))

  pub pairs_is : pairs_right (tab (side_at v x b z) k)
      ≡ ((all (ends_differ v b z) (tab (λ i. i) k) && distinct (tab (pair_at v b z) k))
      && all (λ i. mem (reverse_at v b z i) (tab (pair_at v b z) k)) (tab (λ i. i) k))
  unfolding pairs_right
  pairs_is = rw (once_is, reversed_is) refl
