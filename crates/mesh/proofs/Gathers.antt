-- The serials of all blocks gathered into the scratch, and the scratch cleared. Assumes nothing.
use mathlib.Core.Path.{◌≡◌, refl, sym, ap, subst, ◌∙◌}
use mathlib.Core.Bool.{true, ◌&&◌}
use mathlib.Core.List.{List, [], ◌∷◌, ◌++◌, map, append-nil, append_assoc}
use Prim.Native.Nat.{ℕ, zero, suc, ◌+◌, ◌*◌, ◌-◌, ◌/◌, ◌≤◌, ◌<◌}
use native.Mathlib.Omega.{arith}
use lib.Dec.{leb, eqb}
use lib.ListN.{length, get_or, take, drop, set, replicate, length-drop, length-set, length-replicate}
use lib.Seq.{length-take-le, take-suc-set, ext_get_or}
use borrow.Author.Tests.{eqb-true, leb-true}
use Rattle.laws.proofs.Tests.{and_left, and_right, all_at}
use Rattle.laws.proofs.Lists.{getD_zeros}
use Rattle.laws.proofs.Members.{map_append}
use Rattle.laws.proofs.Maps.{tab_more}
use Rattle.laws.proofs.Tables.{all_tab, length_tab}
use Rattle.memory.proofs.Lookups.{serials_tab}
use Rattle.model.specs.Lists.{all, tab, distinct}
use Rattle.model.specs.Values.{Dart, Block, room}
use Rattle.model.specs.Cells.{serials}
use Rattle.model.specs.Sound.{all_darts, blocks_right, serials_distinct}
use Rattle.model.specs.Image.{words_for, words, count_in, column, block_in, holds_block}
use Rattle.model.specs.Calls.{memories, mesh_lent, scratch_entries}
use Rattle.columns.proofs.Question.{image_passed}
use Rattle.mesh.specs.Parts.{block_count, part, Roomy, serials_of, gathered, PutAfter}
use Rattle.mesh.proofs.Parts.{mesh_tab}

-- THE PART that is lent
part_ends : (n i : ℕ) → i < n / 32776 → i * 32776 + 32776 ≤ n
part_ends n i h = omega arith

pub part_length : (m : List ℕ) (i : ℕ) → i < block_count m → length (part m i) ≡ words
part_length m i h = length-take-le words (drop (i * words) m) (go (length-drop (i * words) m) (part_ends (length m) i h))
  where
    go : {a n : ℕ} → a ≡ n - i * 32776 → i * 32776 + 32776 ≤ n → 32776 ≤ a
    go e h = omega arith

-- ONE BLOCK: the serials below i stand from `at` on
pub record Putting (block out₀ : List ℕ) (at : ℕ) (out : List ℕ) (i : ℕ) : Type 0 where
  pub i_le : i ≤ get_or block 2 0
  pub len : length out ≡ length out₀
  pub put : take (at + i) out ≡ take at out₀ ++ tab (column block 0) i

pub putting_none : (block out : List ℕ) (at : ℕ) → Putting block out at out 0
putting_none block out at = record {
  i_le = omega arith;
  len = refl;
  put = ap (λ (k : ℕ). take k out) (plus_zero at) ∙ sym (append-nil (take at out));
}
  where
    plus_zero : (k : ℕ) → k + 0 ≡ k
    plus_zero k = omega arith

module _ {block out₀ : List ℕ} {at : ℕ} {out : List ℕ} {i : ℕ} (w : Putting block out₀ at out i) where
  pub putting_more : i < get_or block 2 0 → at + get_or block 2 0 ≤ length out₀ → {v : ℕ} → v ≡ column block 0 i → Putting block out₀ at (set out (at + i) v) (i + 1)
  putting_more h fits {v} e = record {
    i_le = omega arith;
    len = length-set out (at + i) v ∙ w.len;
    put = ap (λ (k : ℕ). take k (set out (at + i) v)) (next at i)
        ∙ take-suc-set out (at + i) v (omega (arith, w.len))
        ∙ ap (λ (l : List ℕ). l ++ v ∷ []) w.put
        ∙ append_assoc (take at out₀) (tab (column block 0) i) (v ∷ [])
        ∙ ap (λ (l : List ℕ). take at out₀ ++ l) (ap (λ (x : ℕ). tab (column block 0) i ++ x ∷ []) e ∙ tab_more (column block 0) i ∙ ap (tab (column block 0)) (sym (one_more i)));
  }
    where
      next : (a k : ℕ) → a + (k + 1) ≡ suc (a + k)
      next a k = omega arith

      one_more : (k : ℕ) → k + 1 ≡ suc k
      one_more k = omega arith

  pub putting_end : get_or block 2 0 ≤ i → PutAfter at (serials_of block) out₀ out (at + get_or block 2 0)
  putting_end h = let e : i ≡ get_or block 2 0 = omega (arith, w.i_le) in record {
    len = w.len;
    put = ap (λ (k : ℕ). take (at + k) out) (sym e) ∙ w.put ∙ ap (λ (k : ℕ). take at out₀ ++ tab (column block 0) k) e;
  }

-- a block that is a part of a mesh
module _ (m : List ℕ) (i : ℕ) {b : List ℕ} (is : b ≡ part m i) (held : i < block_count m) (roomy : Roomy m) where
  part_few : count_in b ≤ room
  part_few = subst (λ (x : List ℕ). count_in x ≤ room) (sym is) (roomy i held)

  pub part_small : words_for (count_in b) ≤ length b
  part_small = within (ap length is ∙ part_length m i held) part_few
    where
      within : {k n : ℕ} → n ≡ words → k ≤ room → words_for k ≤ n
      within e h = omega arith

  pub part_asked : (at : ℕ) {n : ℕ} → at + room ≤ n → (words_for (count_in b) ≤ length b) × (at + count_in b ≤ n)
  part_asked at {n} h = (part_small, fits part_few h)
    where
      fits : {k : ℕ} → k ≤ 4096 → at + 4096 ≤ n → at + k ≤ n
      fits a c = omega arith

  pub part_told : {at r : ℕ} {before after : List ℕ} → r ≡ at + get_or b 2 0 → PutAfter at (serials_of b) before after r
      → (r ≤ at + room) × PutAfter at (serials_of (part m i)) before after r
  part_told {at} {r} {before} {after} e p = (below part_few e, subst (λ (x : List ℕ). PutAfter at (serials_of x) before after r) is p)
    where
      below : {k : ℕ} → k ≤ 4096 → r ≡ at + k → r ≤ at + 4096
      below a c = omega arith

-- ALL BLOCKS: the first c entries are what the blocks below i gave, one block after the other
pub record Gathering (given : ℕ → List ℕ) (m out : List ℕ) (c i : ℕ) : Type 0 where
  pub i_le : i ≤ block_count m
  pub c_le : c ≤ i * room
  pub len : length out ≡ 65536
  pub got : take c out ≡ given i

pub gathering_none : (given : ℕ → List ℕ) {m out : List ℕ} → [] ≡ given 0 → length out ≡ 65536 → Gathering given m out 0 0
gathering_none given z e = record { i_le = omega arith; c_le = omega arith; len = e; got = z }

module _ {given : ℕ → List ℕ} {m out : List ℕ} {c i : ℕ} (w : Gathering given m out c i) where
  pub gathering_more : i < block_count m → {xs out' : List ℕ} {r : ℕ} → r ≤ c + room → PutAfter c xs out out' r → given i ++ xs ≡ given (i + 1) → Gathering given m out' r (i + 1)
  gathering_more h {xs} {out'} {r} l p e = record {
    i_le = h' h;
    c_le = omega (arith, w.c_le);
    len = p.len ∙ w.len;
    got = p.put ∙ ap (λ (l : List ℕ). l ++ xs) w.got ∙ e;
  }
    where
      h' : {n : ℕ} → i < n → i + 1 ≤ n
      h' a = omega arith

  pub gathering_room : i < block_count m → block_count m ≤ 16 → c + room ≤ length out
  gathering_room h k = go h k w.c_le w.len
    where
      go : {n : ℕ} → i < n → n ≤ 16 → c ≤ i * 4096 → length out ≡ 65536 → c + 4096 ≤ length out
      go a b d e = omega arith

  pub gathering_end : block_count m ≤ i → block_count m ≤ 16 → (c ≤ 65536) × (length out ≡ 65536) × (take c out ≡ given (block_count m))
  gathering_end h k = (few h k w.c_le w.i_le, w.len, w.got ∙ ap given (same h w.i_le))
    where
      few : {n : ℕ} → n ≤ i → n ≤ 16 → c ≤ i * 4096 → i ≤ n → c ≤ 65536
      few a b d e = omega arith

      same : {n : ℕ} → n ≤ i → i ≤ n → i ≡ n
      same a b = omega arith

-- of the serials
pub gathered_none : (m : List ℕ) → [] ≡ gathered m 0
unfolding gathered
gathered_none m = refl

pub gathered_more : (m : List ℕ) (i : ℕ) → gathered m i ++ serials_of (part m i) ≡ gathered m (i + 1)
unfolding gathered
gathered_more m i = rw (one_more i) refl
  where
    one_more : (k : ℕ) → k + 1 ≡ suc k
    one_more k = omega arith

-- zeros of one length are one list
pub zero_again : (s : List ℕ) → all (eqb 0) s ≡ true → replicate (length s) 0 ≡ s
zero_again s h = ext_get_or 0 (replicate (length s) 0) s (length-replicate (length s) 0)
    (λ i l. getD_zeros (length s) i ∙ eqb-true 0 (get_or s i 0) (all_at (eqb 0) 0 s i h (below i l (length-replicate (length s) 0))))
  where
    below : (i : ℕ) {a b : ℕ} → i < a → a ≡ b → i < b
    below i l e = omega arith

-- THE MODEL'S LIST
pub concat_append : (xs ys : List Block) → all_darts (xs ++ ys) ≡ all_darts xs ++ all_darts ys
unfolding all_darts
concat_append [] ys = refl
concat_append (x ∷ xs) ys = ap (λ (l : List Dart). x.darts ++ l) (concat_append xs ys) ∙ sym (append_assoc x.darts (all_darts xs) (all_darts ys))

pub one_block : (b : Block) → all_darts (b ∷ []) ≡ b.darts
unfolding all_darts
one_block b = append-nil b.darts

serials_append : (xs ys : List Dart) → serials (xs ++ ys) ≡ serials xs ++ serials ys
serials_append xs ys = map_append (λ d. d.serial) xs ys

no_serials : serials (all_darts []) ≡ []
unfolding all_darts
no_serials = refl

gathered_is : (m : List ℕ) (k : ℕ) → gathered m k ≡ serials (all_darts (tab (λ i. block_in (part m i)) k))
unfolding gathered
gathered_is m zero = sym no_serials
gathered_is m (suc k) = sym (ap (λ (l : List Block). serials (all_darts l)) (sym (tab_more (λ i. block_in (part m i)) k))
    ∙ ap serials (concat_append (tab (λ i. block_in (part m i)) k) (block_in (part m k) ∷ []))
    ∙ serials_append (all_darts (tab (λ i. block_in (part m i)) k)) (all_darts (block_in (part m k) ∷ []))
    ∙ ap (λ (l : List ℕ). l ++ serials (all_darts (block_in (part m k) ∷ []))) (sym (gathered_is m k))
    ∙ ap (λ (l : List ℕ). gathered m k ++ l) (ap serials (one_block (block_in (part m k))) ∙ serials_tab (part m k)))

pub gathered_all : (m : List ℕ) → distinct (gathered m (block_count m)) ≡ serials_distinct (map block_in (memories m))
unfolding serials_distinct
gathered_all m = ap distinct (gathered_is m (block_count m) ∙ ap (λ (l : List Block). serials (all_darts l)) (sym (mesh_tab m)))

-- WHAT WAS ASKED before gives the room
pub roomy : (m : List ℕ) → all (λ b. holds_block b) (memories m) ≡ true → Roomy m
unfolding memories
roomy m e i h = (image_passed (part m i) (all_tab (λ b. holds_block b) (part m) (length m / words) e i h)).range.few

few_tab : (g : ℕ → Block) (n : ℕ) → blocks_right (tab g n) ≡ true → n ≤ 16
unfolding blocks_right
few_tab g n e =
    let l : length (tab g n) ≤ 16 = leb-true _ _
    (and_right (leb 1 (length (tab g n))) _ (and_left (leb 1 (length (tab g n)) && leb (length (tab g n)) 16) _ e)) in omega
    (arith, l, length_tab g n)

pub few_blocks : (m : List ℕ) → blocks_right (map block_in (memories m)) ≡ true → block_count m ≤ 16
few_blocks m e = few_tab (λ i. block_in (part m i)) (block_count m) (ap blocks_right (sym (mesh_tab m)) ∙ e)

module _ (m s : List ℕ) (lent : mesh_lent scratch_entries m s ≡ true) where
  pub scratch_length : length s ≡ 65536
  unfolding mesh_lent
  scratch_length = eqb-true _ _ (and_right (eqb (length m / words * words) (length m)) _ (and_left (eqb (length m / words * words) (length m) && eqb (length s) scratch_entries) _ lent))

  pub scratch_zero : all (eqb 0) s ≡ true
  unfolding mesh_lent
  scratch_zero = and_right (eqb (length m / words * words) (length m) && eqb (length s) scratch_entries) _ lent

-- a scratch that was zero is cleared to itself
pub cleared_again : (s : List ℕ) {n : ℕ} {u : List ℕ} → all (eqb 0) s ≡ true → n ≡ length s → u ≡ replicate n 0 → u ≡ s
cleared_again s h l e = e ∙ ap (λ (k : ℕ). replicate k 0) l ∙ zero_again s h
