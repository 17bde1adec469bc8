-- Reading the darts of a mesh by number: what each number needs, and the table of those before. Assumes nothing.
use mathlib.Core.Path.{◌≡◌, refl, sym, ap, subst, ◌∙◌}
use mathlib.Core.Bool.{true}
use mathlib.Core.List.{List, [], ◌∷◌}
use mathlib.Core.Logic.{⊎_elim}
use Prim.Native.Nat.{ℕ, zero, suc, ◌+◌, ◌*◌, ◌/◌, ◌%◌, ◌≤◌, ◌<◌, ◌^◌}
use native.Mathlib.Omega.{arith}
use lib.ListN.{length, get_or, drop, set, length-set}
use borrow.Author.Tests.{eqb-true}
use lib.Seq.{get_or-take, get_or-drop, get_or-set_same, get_or-set_other}
use Rattle.model.specs.Lists.{sorted}
use Rattle.model.specs.Image.{words, column, is_critical_word}
use Rattle.laws.proofs.Tests.{last_or_below}
use Rattle.laws.proofs.Members.{In, in_here, in_there}
use Rattle.columns.specs.Columns.{count, Kind, kind_free, kind_sewn, kind_critical}
use Rattle.columns.proofs.Question.{Passed}
use Rattle.mesh.specs.Parts.{block_count, part}
use Rattle.pairing.specs.Numbers.{MeshAsked, word, Held, next_number, before_of, PlacesBefore, BeforeBelow}
use Rattle.pairing.specs.Keys.{Short, HeldKeys, all_keys}
use Rattle.pairing.proofs.InBlocks.{kind_at, before_at, next_lt, few, passed}
use Rattle.pairing.proofs.BothWays.{Sits, sits_next, sits_before, origin, sits}

-- a word of a part is the mesh's word there
pub word_in : (m : List ℕ) (i x : ℕ) → x < 32776 → get_or m (i * 32776 + x) 0 ≡ get_or (part m i) x 0
word_in m i x h = sym (get_or-take words (drop (i * words) m) x 0 h ∙ get_or-drop (i * words) m x 0)

pub word_read : (m : List ℕ) (g f : ℕ) → f < 8 → get_or m (g / 4096 * 32776 + (8 + g % 4096 * 8 + f)) 0 ≡ word m f g
word_read m g f h = word_in m (g / 4096) (8 + g % 4096 * 8 + f) (small (g % 4096) (lt g))
  where
    lt : (n : ℕ) → n % 4096 < 4096
    lt n = omega arith

    small : (p : ℕ) → p < 4096 → 8 + p * 8 + f < 32776
    small p l = omega arith

below_room : {x n : ℕ} → x < n → n ≤ 4096 → x < 4096
below_room a b = omega arith

module _ {m : List ℕ} (a : MeshAsked m) where
  pub short : (i : ℕ) → i < block_count m → Short (part m i)
  short i h p l c = go (kind_at (passed a i h) p l) c
    where
      go : {k x : ℕ} → Kind k x → is_critical_word k ≡ true → x < 2 ^ 48
      go {k} (kind_free e f) c = let two = eqb-true (k % 4) 2 c in absurd (omega arith)
      go {k} (kind_sewn e) c = let two = eqb-true (k % 4) 2 c in absurd (omega arith)
      go (kind_critical e f g) c = g

  pub roomy : (i : ℕ) → i < block_count m → count (part m i) ≤ 4096
  roomy i h = (passed a i h).range.few

  module _ {g : ℕ} (h : Held m g) where
    w : Passed (part m (g / 4096))
    w = passed a (g / 4096) h.block_lt

    at : Sits g (g / 4096) (g % 4096)
    at = record { in_block = refl; at_place = refl }

    held_by : {x r : ℕ} → Sits x (g / 4096) r → r < count (part m (g / 4096)) → Held m x
    held_by {x} {r} s l = record {
      block_lt = subst (λ (i : ℕ). i < block_count m) (sym s.in_block) h.block_lt;
      place_lt = subst (λ (i : ℕ). x % 4096 < count (part m i)) (sym s.in_block) (subst (λ (p : ℕ). p < count (part m (g / 4096))) (sym s.at_place) l);
    }

    pub next_small : word m 1 g < 4096
    next_small = below_room (next_lt w (g % 4096) h.place_lt) (roomy (g / 4096) h.block_lt)

    pub held_next : Held m (next_number m g)
    held_next = held_by (sits_next m at next_small) (next_lt w (g % 4096) h.place_lt)

    pub number_small : g < 65536
    number_small = go h.block_lt (few a)
      where
        go : {n : ℕ} → g / 4096 < n → n ≤ 16 → g < 65536
        go b c = omega arith

    module _ {t : List ℕ} (b : PlacesBefore m t) where
      last : (r : ℕ) × (r < count (part m (g / 4096))) × (get_or t (g / 4096 * 4096 + g % 4096) 0 ≡ r)
      last =
          let r = before_at w (g % 4096) h.place_lt in
          (r.0, r.1, ap (λ (x : ℕ). get_or t (g / 4096 * 4096 + x) 0) (sym r.2) ∙ b.at (g / 4096) r.0 h.block_lt r.1)

      last_small : last.0 < 4096
      last_small = below_room last.1 (roomy (g / 4096) h.block_lt)

      whole : g / 4096 * 4096 + g % 4096 ≡ g
      whole = omega arith

      pub before_small : get_or t g 0 < 4096
      before_small = subst (λ (x : ℕ). x < 4096) (sym (ap (λ (x : ℕ). get_or t x 0) (sym whole) ∙ last.2)) last_small

      pub held_before : Held m (before_of t g)
      held_before = held_by (sits_before t at last.2 last_small) last.1

  -- KEYS IN ORDER have the numbers of darts
  getD_in : (l : List ℕ) (t : ℕ) → t < length l → In (get_or l t 0) l
  getD_in [] t h = absurd (omega arith)
  getD_in (x ∷ l) zero h = in_here x l
  getD_in (x ∷ l) (suc t) h = in_there (get_or l t 0) x l (getD_in l t (omega arith))

  pub held_keys : {l : List ℕ} → l ≡ sorted (all_keys m (block_count m)) → HeldKeys m l
  held_keys {l} e t h =
      let o = origin a (get_or l t 0) (subst (In (get_or l t 0)) e (getD_in l t h)) in
      let s = sits a (get_or l t 0) o.block o.place o.block_lt o.place_lt o.is in
      record {
        block_lt = subst (λ (i : ℕ). i < block_count m) (sym s.in_block) o.block_lt;
        place_lt = subst (λ (i : ℕ). get_or l t 0 % 65536 % 4096 < count (part m i)) (sym s.in_block) (subst (λ (p : ℕ). p < count (part m o.block)) (sym s.at_place) o.place_lt);
      }

  -- THE TABLE of those before
  pub table_none : {t : List ℕ} → length t ≡ 65536 → BeforeBelow m t 0 0
  table_none e = record { len = e; below = λ j q h l. absurd (omega arith); here = λ q h. absurd (omega arith) }

  pub table_first : {t : List ℕ} {i p : ℕ} → BeforeBelow m t i p → count (part m i) ≤ p → BeforeBelow m t (i + 1) 0
  table_first {t} {i} {p} w h = record {
    len = w.len;
    below = λ j q l k. ⊎_elim
        (λ e. subst (λ (x : ℕ). q < count (part m x) → get_or t (x * 4096 + column (part m x) 1 q) 0 ≡ q) (sym e) (λ z. w.here q (less z h)) k)
        (λ u. w.below j q u k)
        (last_or_below l);
    here = λ q l. absurd (omega arith);
  }
    where
      less : {q n : ℕ} → q < n → n ≤ p → q < p
      less a b = omega arith

  pub table_all : {t : List ℕ} {i p : ℕ} → BeforeBelow m t i p → block_count m ≤ i → PlacesBefore m t
  table_all {t} {i} {p} w h = record { len = w.len; at = λ j q l k. w.below j q (less l h) k }
    where
      less : {j n : ℕ} → j < n → n ≤ i → j < i
      less a b = omega arith

  module _ {t : List ℕ} {i p : ℕ} (w : BeforeBelow m t i p) (hi : i < block_count m) (hp : p < count (part m i)) where
    next_in : (j q : ℕ) → j < block_count m → q < count (part m j) → column (part m j) 1 q < 4096
    next_in j q hj hq = below_room (next_lt (passed a j hj) q hq) (roomy j hj)

    pub write_lt : {x : ℕ} → x ≡ column (part m i) 1 p → i * 4096 + x < length t
    write_lt {x} e = go (next_in i p hi hp) e (few a) hi w.len
      where
        go : {y n k : ℕ} → y < 4096 → x ≡ y → n ≤ 16 → i < n → k ≡ 65536 → i * 4096 + x < k
        go b c d f g = omega arith

    pub table_more : {x : ℕ} → x ≡ column (part m i) 1 p → BeforeBelow m (set t (i * 4096 + x) p) i (p + 1)
    table_more {x} e = record {
      len = length-set t (i * 4096 + x) p ∙ w.len;
      below = λ j q l k. get_or-set_other t (i * 4096 + x) (j * 4096 + column (part m j) 1 q) p 0 (far j (column (part m j) 1 q) l (next_in j q (below_lt l hi) k)) ∙ w.below j q l k;
      here = λ q l. ⊎_elim
          (λ u. ap (λ (y : ℕ). get_or (set t (i * 4096 + x) p) (i * 4096 + column (part m i) 1 y) 0) u ∙ ap
          (λ (y : ℕ). get_or (set t (i * 4096 + x) p) (i * 4096 + y) 0) (sym e) ∙ get_or-set_same t (i * 4096 + x) p 0 (write_lt e) ∙
          sym u)
          (λ u. get_or-set_other t (i * 4096 + x) (i * 4096 + column (part m i) 1 q) p 0 (near q u) ∙ w.here q u)
          (last_or_below l);
    }
      where
        below_lt : {j n : ℕ} → j < i → i < n → j < n
        below_lt a b = omega arith

        far : (j y : ℕ) → j < i → y < 4096 → j * 4096 + y ≡ i * 4096 + x → ⊥
        far j y l k z = omega arith

        near : (q : ℕ) → q < p → i * 4096 + column (part m i) 1 q ≡ i * 4096 + x → ⊥
        near q u z =
            let s : column (part m i) 1 q ≡ column (part m i) 1 p = same z e in
            not_less u ((passed a i hi).apart q p (lt u hp) hp s)
          where
            not_less : {x y : ℕ} → x < y → x ≡ y → ⊥
            not_less b c = omega arith

            same : {y v : ℕ} → i * 4096 + y ≡ i * 4096 + x → x ≡ v → y ≡ v
            same b c = omega arith

            lt : {n : ℕ} → q < p → p < n → q < n
            lt b c = omega arith

-- one block's part of it
pub record Filling (m : List ℕ) (i n : ℕ) (t : List ℕ) (p : ℕ) : Type 0 where
  pub size : n ≡ count (part m i)
  pub filled : BeforeBelow m t i p

module _ {m : List ℕ} {i n : ℕ} {t : List ℕ} {p : ℕ} (w : Filling m i n t p) where
  pub filling_lt : p < n → p < count (part m i)
  filling_lt h = subst (λ (x : ℕ). p < x) w.size h

  pub filling_end : n ≤ p → count (part m i) ≤ p
  filling_end h = subst (λ (x : ℕ). x ≤ p) w.size h
