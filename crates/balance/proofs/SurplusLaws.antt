-- Counts in a table: their sum, their least, their mean, and each one's difference from it as a signed number. Assumes nothing.
use mathlib.Core.Path.{◌≡◌, refl, sym, ap, subst, ◌∙◌}
use mathlib.Core.Bool.{Bool, true, false, true≢false, cond}
use mathlib.Core.List.{List, [], ◌∷◌, ◌++◌, map}
use mathlib.Core.Logic.{⊎_elim}
use Prim.Native.Nat.{ℕ, zero, suc, ◌+◌, ◌*◌, ◌-◌, ◌/◌, ◌<◌, ◌≤◌, ◌^◌}
use native.Mathlib.Numerals.{add-one}
use native.Mathlib.Nat.{div-le_self, le_trans}
use native.Mathlib.Omega.{arith}
use lib.Dec.{T, ltb}
use lib.IntN.{ℤ, pos, negsuc, sub_ℕ, nat_abs, ◌-ℤ◌}
use lib.Signed.{mag, le_z, non_neg}
use lib.ListN.{length, get_or, set, length-set, replicate, get_or-eq_default}
use lib.Seq.{ext_get_or, get_or-set_same, get_or-set_other}
use mir.Syntax.{w32, w64}
use mir.Val.{Fits, SFits, to_z, of_z}
use mir.ValLaws.{to_z_pos, to_z-of_z}
use borrow.Author.Tests.{ltb-true, ltb-false, le-ltb, le-leb}
use Rattle.model.specs.Lists.{any, sum, tab}
use Rattle.model.specs.Balance.{Oracle, picked, counts, mean, surpluses}
use Rattle.model.specs.Calls.{signed_word}
use Rattle.model.specs.Image.{block_in}
use Rattle.laws.proofs.Tests.{by_cases, last_or_below}
use Rattle.laws.proofs.Maps.{tab_more}
use Rattle.laws.proofs.Tables.{length_tab, getD_tab, map_tab, tab_cong, tab_any, none_tab}
use Rattle.mesh.specs.Parts.{block_count, part}
use Rattle.balance.specs.Moves.{count_at, mesh_in, CellsCounted, Least, surplus_by}

-- A DIFFERENCE of two small counts, as an i32
mag_pick : (t : Bool) (x y m : ℕ) → x < m → y < m → mag (cond t (negsuc x) (pos y)) < m
mag_pick true x y m h k = h
mag_pick false x y m h k = k

small : (a b : ℕ) → a ≤ 65536 → b ≤ 65536 → mag (pos a -ℤ pos b) < 2 ^ 31
small a zero h k = omega arith
small a (suc b) h k = mag_pick (ltb a (suc b)) (suc b - suc a) (a - suc b) (2 ^ 31) (omega arith) (omega arith)

pub in_width : (a b : ℕ) → a ≤ 65536 → b ≤ 65536 → SFits w32 (pos a -ℤ pos b)
in_width a b h k = record { sfits = small a b h k }

pub signed : (a : ℕ) → a ≤ 65536 → to_z w32 a ≡ pos a
signed a h = to_z_pos w32 a (omega arith)

pub difference_is : (a b : ℕ) → pos a -ℤ pos b ≡ sub_ℕ a b
difference_is a zero = let e : a + 0 ≡ a - 0 = omega arith in rw (le-ltb a 0 (omega arith)) (ap pos e)
difference_is a (suc b) = refl

-- A SIGNED NUMBER as a word: y is what an i32 reads, x what it is
module _ {x y : ℤ} (e : y ≡ x) (fits : SFits w32 x) where
  pub word_fits : le_z (pos 0) y ≡ true → T (non_neg y) × Fits w64 (nat_abs y)
  word_fits h = rw e (at x fits (rw e at h))
    where
      at : (z : ℤ) → SFits w32 z → le_z (pos 0) z ≡ true → T (non_neg z) × Fits w64 (nat_abs z)
      at (pos n) f h = (tt, record { fits = let l = f.sfits in omega (arith, l) })
      at (negsuc n) f h = absurd (true≢false (sym h))

  pub word_above : le_z (pos 0) y ≡ true → nat_abs y ≡ signed_word x
  word_above h = rw e (at x (rw e at h))
    where
      at : (z : ℤ) → le_z (pos 0) z ≡ true → nat_abs z ≡ signed_word z
      at (pos n) h = refl
      at (negsuc n) h = absurd (true≢false (sym h))

  below_zero : le_z (pos 0) y ≡ false → (n : ℕ) × (x ≡ negsuc n) × (n < 2 ^ 31)
  below_zero h = at x fits (rw e at h)
    where
      at : (z : ℤ) → SFits w32 z → le_z (pos 0) z ≡ false → (n : ℕ) × (z ≡ negsuc n) × (n < 2 ^ 31)
      at (pos n) f h = let z = le-leb 0 n (omega arith) in absurd (true≢false (sym z ∙ h))
      at (negsuc n) f h = (n, refl, f.sfits)

  -- less than −1 by that much
  less_one : le_z (pos 0) y ≡ false → (n : ℕ) × (x ≡ negsuc n) × (n < 2 ^ 31) × (negsuc 0 -ℤ y ≡ pos n)
  less_one h = let b = below_zero h in (b.0, b.1, b.2, ap (λ (z : ℤ). negsuc 0 -ℤ z) (e ∙ b.1) ∙ minus b.0)
    where
      minus : (n : ℕ) → negsuc 0 -ℤ negsuc n ≡ pos n
      minus n = let z : suc n - 1 ≡ n = omega arith in rw (le-ltb (suc n) 1 (omega arith)) (ap pos z)

  pub less_fits : le_z (pos 0) y ≡ false → SFits w32 (negsuc 0 -ℤ y)
  less_fits h = let b = less_one h in rw b.3 (record { sfits = b.2 })

  less_is : le_z (pos 0) y ≡ false → (n : ℕ) × (x ≡ negsuc n) × (n < 2 ^ 31) × (to_z w32 (of_z w32 (negsuc 0 -ℤ y)) ≡ pos n)
  less_is h = let b = less_one h in (b.0, b.1, b.2, to_z-of_z w32 (negsuc 0 -ℤ y) (less_fits h) ∙ b.3)

  pub less_word : le_z (pos 0) y ≡ false → T (non_neg (to_z w32 (of_z w32 (negsuc 0 -ℤ y)))) × Fits w64 (nat_abs (to_z w32 (of_z w32 (negsuc 0 -ℤ y))))
  less_word h = let b = less_is h in let l = b.2 in rw b.3 (tt, record { fits = omega (arith, l) })

  pub less_small : le_z (pos 0) y ≡ false → nat_abs (to_z w32 (of_z w32 (negsuc 0 -ℤ y))) ≤ 18446744073709551615
  less_small h = let b = less_is h in let l = b.2 in rw b.3 (omega (arith, l))

  pub word_below : le_z (pos 0) y ≡ false → 18446744073709551615 - nat_abs (to_z w32 (of_z w32 (negsuc 0 -ℤ y))) ≡ signed_word x
  word_below h = let b = less_is h in ap (λ (z : ℤ). 18446744073709551615 - nat_abs z) b.3 ∙ ap signed_word (sym b.1)

-- A SUM, one more at a time
sum_append : (l r : List ℕ) → sum (l ++ r) ≡ sum l + sum r
sum_append [] r = omega arith
sum_append (x ∷ l) r = omega (arith, sum_append l r)

pub sum_more : (f : ℕ → ℕ) (i : ℕ) → sum (tab f (i + 1)) ≡ sum (tab f i) + f i
sum_more f i =
    let one : sum (f i ∷ []) ≡ f i = omega arith in
    ap (λ (n : ℕ). sum (tab f n)) (add-one i) ∙ ap sum (sym (tab_more f i)) ∙ sum_append (tab f i) (f i ∷ []) ∙ ap (λ (x : ℕ). sum (tab f i) + x) one

-- the first i of k values sum up to t
pub record Summing (f : ℕ → ℕ) (k t i : ℕ) : Type 0 where
  pub i_le : i ≤ k
  pub so_far : t ≡ sum (tab f i)
  pub small_sum : t ≤ 4096 * i

pub summing_start : (f : ℕ → ℕ) (k : ℕ) → Summing f k 0 0
summing_start f k = record { i_le = omega arith; so_far = refl; small_sum = omega arith }

pub summing_next : {f : ℕ → ℕ} {k t i : ℕ} → Summing f k t i → i < k → f i ≤ 4096 → Summing f k (t + f i) (i + 1)
summing_next {f} {k} {t} {i} w h few = record { i_le = omega arith; so_far = omega (arith, w.so_far, sum_more f i); small_sum = omega (arith, w.small_sum) }

pub summed : {f : ℕ → ℕ} {k t i : ℕ} → Summing f k t i → k ≤ i → k ≤ 16 → (t ≡ sum (tab f k)) × (t ≤ 65536)
summed {f} {k} {t} {i} w h few = let e : i ≡ k = omega (arith, w.i_le) in (w.so_far ∙ ap (λ (n : ℕ). sum (tab f n)) e, omega (arith, w.small_sum))

-- TABLES of sixteen filled one by one, over what is nothing
pub record Filling {A : Type 0} (d : A) (f : ℕ → A) (k : ℕ) (s : List A) (i : ℕ) : Type 0 where
  pub i_le : i ≤ k
  pub size : length s ≡ 16
  pub told : (j : ℕ) → j < i → get_or s j d ≡ f j
  pub behind : (j : ℕ) → i ≤ j → get_or s j d ≡ d

pub filling_start : {A : Type 0} (d : A) (f : ℕ → A) (k : ℕ) → Filling d f k (replicate 16 d) 0
filling_start d f k = record { i_le = omega arith; size = refl; told = λ j l. absurd (omega arith); behind = λ j l. nothing 16 j }
  where
    nothing : (n j : ℕ) → get_or (replicate n d) j d ≡ d
    nothing zero j = refl
    nothing (suc n) zero = refl
    nothing (suc n) (suc j) = nothing n j

pub filling_next : {A : Type 0} {d : A} {f : ℕ → A} {k : ℕ} {s : List A} {i : ℕ} → Filling d f k s i → k ≤ 16 → i < k → {x : A} → x ≡ f i → Filling d f k (set s i x) (i + 1)
filling_next {A} {d} {f} {k} {s} {i} w few h {x} e = record {
  i_le = omega arith;
  size = simp length-set w.size;
  told = λ j l. ⊎_elim
      (λ same. ap (λ (y : ℕ). get_or (set s i x) y d) same ∙ get_or-set_same s i x d (omega (arith, w.size)) ∙ e ∙ ap f (sym same))
      (λ below. get_or-set_other s i j x d (λ same. omega arith) ∙ w.told j below)
      (last_or_below l);
  behind = λ j l. get_or-set_other s i j x d (λ same. omega arith) ∙ w.behind j (omega arith);
}

pub filled : {A : Type 0} {d : A} {f : ℕ → A} {k : ℕ} {s : List A} {i : ℕ} → Filling d f k s i → k ≤ i → (j : ℕ) → j < k → get_or s j d ≡ f j
filled w h j l = w.told j (omega arith)

-- THE LEAST before i
pub record Lowest (cs : List ℕ) (k low i : ℕ) : Type 0 where
  pub i_le : i ≤ k
  pub least : Least cs i low

pub lowest_start : (cs : List ℕ) (k : ℕ) → 1 ≤ k → Lowest cs k (get_or cs 0 0) 1
lowest_start cs k h = record {
  i_le = h;
  least = record { not_above = λ i l. let e = ap (λ (x : ℕ). get_or cs x 0) (zero_only i l) in omega (arith, e); place = 0; below = omega arith; there = refl };
}
  where
    zero_only : (i : ℕ) → i < 1 → i ≡ 0
    zero_only i l = omega arith

module _ {cs : List ℕ} {k low i : ℕ} (w : Lowest cs k low i) (h : i < k) where
  pub lowest_new : get_or cs i 0 < low → Lowest cs k (get_or cs i 0) (i + 1)
  lowest_new l = record {
    i_le = omega arith;
    least = record {
      not_above = λ j q. ⊎_elim
          (λ same. let e = ap (λ (x : ℕ). get_or cs x 0) same in omega (arith, e))
          (λ before. let a = w.least.not_above j before in omega (arith, a, l)) (last_or_below q);
      place = i;
      below = omega arith;
      there = refl;
    };
  }

  pub lowest_same : low ≤ get_or cs i 0 → Lowest cs k low (i + 1)
  lowest_same l = record {
    i_le = omega arith;
    least = record {
      not_above = λ j q. ⊎_elim
          (λ same. let e = ap (λ (x : ℕ). get_or cs x 0) same in omega (arith, e, l))
          (λ before. w.least.not_above j before) (last_or_below q);
      place = w.least.place;
      below = let b = w.least.below in omega (arith, b);
      there = w.least.there;
    };
  }

pub lowest_end : {cs : List ℕ} {k low i : ℕ} → Lowest cs k low i → k ≤ i → Least cs k low
lowest_end {cs} {k} {low} {i} w h = let e : i ≡ k = omega (arith, w.i_le) in subst (λ (n : ℕ). Least cs n low) e w.least

-- SOME of the first k passes
pub record Seeking (q : ℕ → Bool) (s : List ℕ) (i : ℕ) : Type 0 where
  pub before : (j : ℕ) → j < i → q (get_or s j 0) ≡ false

pub seeking_start : (q : ℕ → Bool) (s : List ℕ) → Seeking q s 0
seeking_start q s = record { before = λ j l. absurd (omega arith) }

module _ {q : ℕ → Bool} {s : List ℕ} {i : ℕ} (w : Seeking q s i) where
  pub seeking_next : q (get_or s i 0) ≡ false → Seeking q s (i + 1)
  seeking_next e = record { before = λ j l. ⊎_elim (λ same. ap (λ (y : ℕ). q (get_or s y 0)) same ∙ e) (λ below. w.before j below) (last_or_below l) }

  pub sought : (k : ℕ) → i < k → q (get_or s i 0) ≡ true → true ≡ any q (tab (λ j. get_or s j 0) k)
  sought k h e = sym (tab_any q (λ j. get_or s j 0) k i h e)

  pub sought_all : (k : ℕ) → k ≤ i → false ≡ any q (tab (λ j. get_or s j 0) k)
  sought_all k h = sym (none_tab q (λ j. get_or s j 0) k (λ j l. w.before j (omega arith)))

-- SURPLUSES in a table
pub surpluses_told : (cs : List ℕ) (k m : ℕ) {s : List ℤ} {i : ℕ} → Filling (pos 0) (λ j. sub_ℕ (get_or cs j 0) m) k s i → k ≤ i → s ≡ tab (surplus_by cs k m) 16
surpluses_told cs k m {s} {i} w h = ext_get_or (pos 0) s (tab (surplus_by cs k m) 16) (w.size ∙ sym (length_tab (surplus_by cs k m) 16))
    (λ j l. entry j ∙ sym (getD_tab (surplus_by cs k m) 16 j (pos 0) (let z = w.size in omega (arith, z, l))))
  where
    entry : (j : ℕ) → get_or s j (pos 0) ≡ surplus_by cs k m j
    entry j = by_cases (ltb j k)
        (λ e. w.told j (let b = ltb-true j k e in omega (arith, b, h)) ∙ sym (rw e refl))
        (λ e. w.behind j (let b = ltb-false j k e in let p = w.i_le in omega (arith, b, p)) ∙ sym (rw e refl))

-- THE MODEL'S COUNTS, mean and surpluses
module _ (o : Oracle) (mesh : List ℕ) where
  abbrev k : ℕ
  k = block_count mesh

  pub counts_are : counts o (mesh_in mesh) ≡ tab (count_at o mesh) k
  unfolding counts
  counts_are = map_tab (λ b. length (picked o b.darts)) (λ i. block_in (part mesh i)) k

  -- from the counts in a table
  module _ {cs : List ℕ} (c : CellsCounted o mesh cs) {t : ℕ} (total : t ≡ sum (tab (λ i. get_or cs i 0) k)) where
    pub mean_is : t / k ≡ mean (counts o (mesh_in mesh))
    unfolding mean
    mean_is = ap (λ (x : ℕ). x / k) (total ∙ ap sum (tab_cong (λ i. get_or cs i 0) (count_at o mesh) k c.entry))
        ∙ sym (ap (λ (l : List ℕ). sum l / length l) counts_are ∙ ap (λ (n : ℕ). sum (tab (count_at o mesh) k) / n) (length_tab (count_at o mesh) k))

    surplus_is : (i : ℕ) → surplus_by cs k (t / k) i ≡ get_or (surpluses (counts o (mesh_in mesh))) i (pos 0)
    unfolding surpluses
    surplus_is i =
        by_cases (ltb i k)
        (λ e. rw e (let h = ltb-true i k e in ap (λ (x : ℕ). sub_ℕ x (t / k)) (c.entry i h) ∙ ap (sub_ℕ (count_at o mesh i)) mean_is ∙ sym (at h)))
        (λ e. rw e (sym (past (ltb-false i k e))))
      where
        all_surpluses : map (λ x. sub_ℕ x (mean (counts o (mesh_in mesh)))) (counts o (mesh_in mesh)) ≡ tab (λ j. sub_ℕ (count_at o mesh j) (mean (counts o (mesh_in mesh)))) k
        all_surpluses = ap (map (λ x. sub_ℕ x (mean (counts o (mesh_in mesh))))) counts_are ∙ map_tab (λ x. sub_ℕ x (mean (counts o (mesh_in mesh)))) (count_at o mesh) k

        at : i < k → get_or (map (λ x. sub_ℕ x (mean (counts o (mesh_in mesh)))) (counts o (mesh_in mesh))) i (pos 0) ≡ sub_ℕ (count_at o mesh i) (mean (counts o (mesh_in mesh)))
        at h = ap (λ (l : List ℤ). get_or l i (pos 0)) all_surpluses ∙ getD_tab (λ j. sub_ℕ (count_at o mesh j) (mean (counts o (mesh_in mesh)))) k i (pos 0) h

        past : k ≤ i → get_or (map (λ x. sub_ℕ x (mean (counts o (mesh_in mesh)))) (counts o (mesh_in mesh))) i (pos 0) ≡ pos 0
        past h = ap (λ (l : List ℤ). get_or l i (pos 0)) all_surpluses ∙ get_or-eq_default (tab (λ j. sub_ℕ (count_at o mesh j) (mean (counts o (mesh_in mesh)))) k) (pos 0) (let n = length_tab (λ j. sub_ℕ (count_at o mesh j) (mean (counts o (mesh_in mesh)))) k in omega (arith, n, h))

    pub surpluses_are : tab (surplus_by cs k (t / k)) 16 ≡ tab (λ i. get_or (surpluses (counts o (mesh_in mesh))) i (pos 0)) 16
    surpluses_are = tab_cong (surplus_by cs k (t / k)) (λ i. get_or (surpluses (counts o (mesh_in mesh))) i (pos 0)) 16 (λ i h. surplus_is i)

pub mean_small : (t n : ℕ) → t ≤ 65536 → t / n ≤ 65536
mean_small t n h = le_trans (div-le_self t n) h
