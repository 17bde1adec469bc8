-- The parts of a mesh, and what the questions 1, 2 and 23 test of them. Assumes nothing.
use mathlib.Core.Path.{◌≡◌, refl, sym, ap, ◌∙◌}
use mathlib.Core.Bool.{Bool, true, false, ◌&&◌}
use mathlib.Core.List.{List, [], ◌∷◌, map}
use Prim.Native.Nat.{ℕ, zero, suc, ◌+◌, ◌*◌, ◌-◌, ◌/◌, ◌≤◌, ◌<◌}
use native.Mathlib.Omega.{arith}
use lib.Dec.{leb, eqb}
use lib.ListN.{length, get_or, take, drop}
use lib.Seq.{get_or-take, get_or-drop, ext_get_or}
use borrow.Author.Tests.{eqb-true, eq-eqb, ne_eqb, le-leb, lt-leb}
use Rattle.laws.proofs.Tests.{and_intro, and_left, and_right, same_truth, first_false, all_three}
use Rattle.laws.proofs.Tables.{length_tab, map_tab, getD_tab}
use Rattle.model.specs.Lists.{all, tab}
use Rattle.model.specs.Values.{Block}
use Rattle.model.specs.Sound.{numbered_from, blocks_right}
use Rattle.model.specs.Image.{words, block_in}
use Rattle.model.specs.Calls.{memories, mesh_lent, scratch_entries}
use Rattle.std.specs.List.{list_all, range_with_len}
use Rattle.columns.specs.Columns.{all_below}
use Rattle.columns.proofs.Below.{below_at, at_below, below_none, below_step, all_is}
use Rattle.mesh.specs.Parts.{block_count, part, sound_memory, number_test}

-- THE PARTS
-- the part from one end to the other
pub part_is : (m : List ℕ) (i a : ℕ) → a ≡ i * 32776 → take (a + 32776 - a) (drop a m) ≡ part m i
part_is m i a e = rw (cancels a, e) refl
  where
    cancels : (a : ℕ) → a + 32776 - a ≡ 32776
    cancels a = omega arith

-- a list as a table
pub list_tab : (l : List ℕ) → l ≡ tab (λ i. get_or l i 0) (length l)
list_tab l = ext_get_or 0 l (tab (λ i. get_or l i 0) (length l)) (sym (length_tab (λ i. get_or l i 0) (length l)))
    (λ i h. sym (getD_tab (λ i. get_or l i 0) (length l) i 0 h))

-- A LOOP over tests that goes on after a no
pub record Tested (t : ℕ → Bool) (n : ℕ) (ok : Bool) (i : ℕ) : Type 0 where
  pub i_le : i ≤ n
  pub so : ok ≡ all_below t i

pub tested_none : {t : ℕ → Bool} {n : ℕ} → Tested t n true 0
tested_none {t} {n} = record { i_le = omega arith; so = below_none t }

module _ {t : ℕ → Bool} {n i : ℕ} {ok : Bool} (w : Tested t n ok i) where
  pub tested_more : i < n → {b : Bool} → b ≡ t i → Tested t n (ok && b) (i + 1)
  tested_more h e = record { i_le = omega arith; so = below_step t i w.so e }

  pub tested_end : n ≤ i → ok ≡ all_below t n
  tested_end h = let e : i ≡ n = omega (arith, w.i_le) in w.so ∙ ap (all_below t) e

-- 1: ZEROS
abbrev pub zero_test : List ℕ → ℕ → Bool
zero_test s i = eqb 0 (get_or s i 0)

pub zero_read : (s : List ℕ) (i : ℕ) → eqb (get_or s i 0) 0 ≡ zero_test s i
zero_read s i = same_truth (eqb (get_or s i 0) 0) (eqb 0 (get_or s i 0)) (λ e. eq-eqb 0 (get_or s i 0) (sym (eqb-true (get_or s i 0) 0 e))) (λ e. eq-eqb (get_or s i 0) 0 (sym (eqb-true 0 (get_or s i 0) e)))

pub zeros_is : (s : List ℕ) → all_below (zero_test s) (length s) ≡ all (eqb 0) s
zeros_is s = all_is (eqb 0) (λ i. get_or s i 0) (length s) ∙ ap (all (eqb 0)) (sym (list_tab s))

-- 1: the three parts of the answer
second_false : (a b c : Bool) → a ≡ true → b ≡ false → false ≡ (a && b && c)
second_false a b c e f = rw (e, f) refl

module _ (m s : List ℕ) where
  pub not_whole : (length m / 32776 * 32776 ≡ length m → ⊥) → false ≡ mesh_lent scratch_entries m s
  unfolding mesh_lent
  not_whole h = first_false (eqb (length m / words * words) (length m)) (eqb (length s) scratch_entries) (all (eqb 0) s) (ne_eqb _ _ h)

  pub not_entries : length m / 32776 * 32776 ≡ length m → (length s ≡ 65536 → ⊥) → false ≡ mesh_lent scratch_entries m s
  unfolding mesh_lent
  not_entries e h = second_false (eqb (length m / words * words) (length m)) (eqb (length s) scratch_entries) (all (eqb 0) s) (eq-eqb _ _ e) (ne_eqb _ _ h)

  pub lent_zeros : length m / 32776 * 32776 ≡ length m → length s ≡ 65536 → {r : Bool} → r ≡ all (eqb 0) s → r ≡ mesh_lent scratch_entries m s
  unfolding mesh_lent
  lent_zeros e f g = all_three (eqb (length m / words * words) (length m)) (eqb (length s) scratch_entries) (all (eqb 0) s) (eq-eqb _ _ e) (eq-eqb _ _ f) g

-- 2
-- `all` over a range
all_same : (t : ℕ → Bool) (l : List ℕ) → list_all t l ≡ all t l
all_same t [] = refl
all_same t (x ∷ l) = ap (λ (b : Bool). t x && b) (all_same t l)

range_tab : (a n : ℕ) → range_with_len a n ≡ tab (λ i. a + i) n
range_tab a zero = refl
range_tab a (suc n) =
    let first : a ≡ a + 0 = omega arith in
    let rest : (i : ℕ) → a + 1 + i ≡ a + suc i = λ i. omega arith in
    let more = range_tab (a + 1) n ∙ ap (λ (f : ℕ → ℕ). tab f n) (λ k i. rest i k) in
    λ k. first k ∷ more k

pub range_all : (t : ℕ → Bool) (n : ℕ) → list_all t (range_with_len 0 n) ≡ all_below t n
range_all t n =
    let own : (i : ℕ) → 0 + i ≡ i = λ i. omega arith in
    all_same t (range_with_len 0 n) ∙ ap (all t) (range_tab 0 n ∙ ap (λ (f : ℕ → ℕ). tab f n) (λ k i. own i k)) ∙ sym (all_is t (λ i. i) n)

abbrev pub sound_test : ℕ → List ℕ → ℕ → Bool
sound_test viewers m i = sound_memory viewers (part m i)

pub sound_is : (viewers : ℕ) (m : List ℕ) → all_below (sound_test viewers m) (block_count m) ≡ all (sound_memory viewers) (memories m)
unfolding memories
sound_is viewers m = all_is (sound_memory viewers) (part m) (length m / words)

-- 23
pub numbered_at : (g : ℕ → Block) (n i : ℕ) → numbered_from i (tab g n) ≡ true → (p : ℕ) → p < n → eqb (g p).number (i + p) ≡ true
unfolding numbered_from
numbered_at g zero i e p h = absurd (omega arith)
numbered_at g (suc n) i e zero h = let q : i + 0 ≡ i = omega arith in rw q (and_left _ _ e)
numbered_at g (suc n) i e (suc p) h = let q : i + suc p ≡ suc i + p = omega arith in rw q (numbered_at (λ k. g (suc k)) n (suc i) (and_right (eqb (g 0).number i) _ e) p (omega arith))

at_numbered : (g : ℕ → Block) (n i : ℕ) → ((p : ℕ) → p < n → eqb (g p).number (i + p) ≡ true) → numbered_from i (tab g n) ≡ true
unfolding numbered_from
at_numbered g zero i h = refl
at_numbered g (suc n) i h = and_intro (go (h 0 (omega arith))) (at_numbered (λ k. g (suc k)) n (suc i) (λ p l. step p (h (suc p) (omega arith))))
  where
    go : eqb (g 0).number (i + 0) ≡ true → eqb (g 0).number i ≡ true
    go e = let q : i + 0 ≡ i = omega arith in rw q at e

    step : (p : ℕ) → eqb (g (suc p)).number (i + suc p) ≡ true → eqb (g (suc p)).number (suc i + p) ≡ true
    step p e = let q : i + suc p ≡ suc i + p = omega arith in rw q at e

-- the first word of a part is the mesh's word there
pub first_word : (m : List ℕ) (i : ℕ) → get_or (part m i) 0 0 ≡ get_or m (i * words) 0
first_word m i = get_or-take words (drop (i * words) m) 0 0 (omega arith) ∙ get_or-drop (i * words) m 0 0 ∙ ap (λ (k : ℕ). get_or m k 0) (plus_zero (i * words))
  where
    plus_zero : (k : ℕ) → k + 0 ≡ k
    plus_zero k = omega arith

numbered_tests : (m : List ℕ) (g : ℕ → Block) (n : ℕ) → ((i : ℕ) → (g i).number ≡ get_or m (i * words) 0) → all_below (number_test m) n ≡ numbered_from 0 (tab g n)
numbered_tests m g n h = same_truth (all_below (number_test m) n) (numbered_from 0 (tab g n))
    (λ e. at_numbered g n 0 (λ p l. ap (eqb (g p).number) (from_zero p) ∙ ap (λ (k : ℕ). eqb k p) (h p) ∙ below_at (number_test m) n e p l))
    (λ e. at_below (number_test m) n (λ p l. ap (λ (k : ℕ). eqb k p) (sym (h p)) ∙ ap (eqb (g p).number) (sym (from_zero p)) ∙ numbered_at g n 0 e p l))
  where
    from_zero : (p : ℕ) → 0 + p ≡ p
    from_zero p = omega arith

pub mesh_tab : (m : List ℕ) → map block_in (memories m) ≡ tab (λ i. block_in (part m i)) (block_count m)
unfolding memories
mesh_tab m = map_tab block_in (part m) (length m / words)

right_tab : (g : ℕ → Block) (n : ℕ) → blocks_right (tab g n) ≡ (leb 1 n && leb n 16 && numbered_from 0 (tab g n))
unfolding blocks_right
right_tab g n = rw (length_tab g n) refl

module _ (m : List ℕ) {k : ℕ} (is : k ≡ block_count m) where
  abbrev block_of : ℕ → Block
  block_of i = block_in (part m i)

  asked_is : blocks_right (map block_in (memories m)) ≡ (leb 1 k && leb k 16 && numbered_from 0 (tab block_of k))
  asked_is = ap blocks_right (mesh_tab m) ∙ ap (λ (n : ℕ). blocks_right (tab block_of n)) (sym is) ∙ right_tab block_of k

  pub no_blocks : k < 1 → false ≡ blocks_right (map block_in (memories m))
  no_blocks h = first_false (leb 1 k) (leb k 16) (numbered_from 0 (tab block_of k)) (lt-leb 1 k h) ∙ sym asked_is

  pub too_many : 1 ≤ k → 16 < k → false ≡ blocks_right (map block_in (memories m))
  too_many l h = second_false (leb 1 k) (leb k 16) (numbered_from 0 (tab block_of k)) (le-leb 1 k l) (lt-leb k 16 h) ∙ sym asked_is

  pub in_order : 1 ≤ k → k ≤ 16 → {r : Bool} → r ≡ all_below (number_test m) k → r ≡ blocks_right (map block_in (memories m))
  in_order l h e = all_three (leb 1 k) (leb k 16) (numbered_from 0 (tab block_of k)) (le-leb 1 k l) (le-leb k 16 h) (e ∙ numbered_tests m block_of k (first_word m)) ∙ sym asked_is
