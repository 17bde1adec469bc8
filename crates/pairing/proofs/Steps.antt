-- The loops: keys gathered block by block, and keys in order tested two by two. Assumes nothing.
use mathlib.Core.Path.{◌≡◌, refl, sym, ap, subst, ◌∙◌}
use mathlib.Core.Bool.{Bool, true, false, not, ◌&&◌}
use mathlib.Core.List.{List, [], ◌∷◌, ◌++◌, append-nil, append_assoc}
use mathlib.Core.Logic.{⊎_elim}
use Prim.Native.Nat.{ℕ, suc, ◌+◌, ◌*◌, ◌-◌, ◌/◌, ◌%◌, ◌≤◌, ◌<◌}
use native.Mathlib.Omega.{arith}
use lib.Dec.{eqb}
use lib.ListN.{length, get_or, take, drop, set, length-set}
use lib.Seq.{take-suc-set}
use borrow.Author.Tests.{eq-eqb, ne_eqb}
use Rattle.model.specs.Image.{column, is_critical_word}
use Rattle.laws.proofs.Tests.{eq_or_ne}
use Rattle.laws.proofs.Lists.{drop_at_cons, drop_end}
use Rattle.columns.specs.Columns.{count}
use Rattle.mesh.specs.Parts.{part, PutAfter}
use Rattle.pairing.specs.Keys.{dart_key, key_of, keys_of, all_keys, fresh, two_test, in_pairs, each_pair}

-- PUTTING
put_none : (at : ℕ) (out : List ℕ) → PutAfter at [] out out at
put_none at out = record { len = refl; put = sym (append-nil (take at out)) }

put_more : {at r s : ℕ} {xs ys out mid end : List ℕ} → PutAfter at xs out mid r → PutAfter r ys mid end s → PutAfter at (xs ++ ys) out end s
put_more {at} {r} {s} {xs} {ys} {out} {mid} {end} p q = record {
  len = q.len ∙ p.len;
  put = q.put ∙ ap (λ (l : List ℕ). l ++ ys) p.put ∙ append_assoc (take at out) xs ys;
}

-- one key
pub key_none : (b : List ℕ) (i p at : ℕ) (out : List ℕ) {k : ℕ} → k ≡ column b 3 p → is_critical_word k ≡ false → (at ≤ at + 1) × PutAfter at (key_of b i p) out out at
key_none b i p at out e h = (omega arith, subst (λ (l : List ℕ). PutAfter at l out out at) (sym nothing) (put_none at out))
  where
    nothing : key_of b i p ≡ []
    nothing = rw (ap is_critical_word (sym e) ∙ h) refl

pub key_put : (b : List ℕ) (i p at : ℕ) (out : List ℕ) {k a : ℕ} → at < length out → k ≡ column b 3 p → is_critical_word k ≡ true → a ≡ column b 4 p
    → (at + 1 ≤ at + 1) × PutAfter at (key_of b i p) out (set out at (a * 65536 + (i * 4096 + p))) (at + 1)
key_put b i p at out {k} {a} l e h f = (
  omega arith,
  record {
    len = length-set out at (a * 65536 + (i * 4096 + p));
    put = ap (λ (n : ℕ). take n (set out at (a * 65536 + (i * 4096 + p)))) (one_more at) ∙ take-suc-set out at (a * 65536 + (i * 4096 + p)) l
        ∙ ap (λ (x : ℕ). take at out ++ (x * 65536 + (i * 4096 + p)) ∷ []) f ∙ ap (λ (x : List ℕ). take at out ++ x) (sym it);
  },
)
  where
    one_more : (n : ℕ) → n + 1 ≡ suc n
    one_more n = omega arith

    it : key_of b i p ≡ dart_key b i p ∷ []
    it = rw (ap is_critical_word (sym e) ∙ h) refl

-- a block's keys
pub record Putting (b : List ℕ) (i : ℕ) (out₀ : List ℕ) (at : ℕ) (out : List ℕ) (end p : ℕ) : Type 0 where
  pub p_le : p ≤ count b
  pub end_le : end ≤ at + p
  pub done : PutAfter at (keys_of b i p) out₀ out end

pub putting_none : (b : List ℕ) (i : ℕ) (out : List ℕ) (at : ℕ) → Putting b i out at out at 0
unfolding keys_of
putting_none b i out at = record { p_le = omega arith; end_le = omega arith; done = put_none at out }

keys_more : (b : List ℕ) (i p : ℕ) → keys_of b i p ++ key_of b i p ≡ keys_of b i (p + 1)
unfolding keys_of
keys_more b i p = rw (one_more p) refl
  where
    one_more : (k : ℕ) → k + 1 ≡ suc k
    one_more k = omega arith

module _ {b : List ℕ} {i : ℕ} {out₀ : List ℕ} {at : ℕ} {out : List ℕ} {end p : ℕ} (w : Putting b i out₀ at out end p) where
  pub putting_more : p < count b → {out' : List ℕ} {r : ℕ} → r ≤ end + 1 → PutAfter end (key_of b i p) out out' r → Putting b i out₀ at out' r (p + 1)
  putting_more h {out'} {r} l q = record {
    p_le = omega (arith, h);
    end_le = omega (arith, w.end_le, l);
    done = subst (λ (x : List ℕ). PutAfter at x out₀ out' r) (keys_more b i p) (put_more w.done q);
  }

  pub putting_room : p < count b → count b ≤ 4096 → at + 4096 ≤ length out₀ → end < length out
  putting_room h k l = go w.end_le h k l w.done.len
    where
      go : {n y z : ℕ} → end ≤ at + p → p < n → n ≤ 4096 → at + 4096 ≤ y → z ≡ y → end < z
      go a b c d e = omega arith

  pub putting_end : count b ≤ p → count b ≤ 4096 → (end ≤ at + 4096) × PutAfter at (keys_of b i (count b)) out₀ out end
  putting_end h k = (few h w.p_le w.end_le k, subst (λ (n : ℕ). PutAfter at (keys_of b i n) out₀ out end) (same h w.p_le) w.done)
    where
      few : {n : ℕ} → n ≤ p → p ≤ n → end ≤ at + p → n ≤ 4096 → end ≤ at + 4096
      few a b c d = omega arith

      same : {n : ℕ} → n ≤ p → p ≤ n → p ≡ n
      same a b = omega arith

-- all blocks' keys
pub all_none : (m : List ℕ) → [] ≡ all_keys m 0
unfolding all_keys
all_none m = refl

pub all_more : (m : List ℕ) (i : ℕ) → all_keys m i ++ keys_of (part m i) i (count (part m i)) ≡ all_keys m (i + 1)
unfolding all_keys
all_more m i = rw (one_more i) refl
  where
    one_more : (k : ℕ) → k + 1 ≡ suc k
    one_more k = omega arith

-- TWO BY TWO
pub fresh_end : (a : ℕ) (l : List ℕ) (t : ℕ) → length l ≤ t → true ≡ fresh a (drop t l)
unfolding fresh
fresh_end a l t h = sym (ap (fresh a) (drop_end l t h))

pub fresh_there : (a : ℕ) (l : List ℕ) (t : ℕ) → t < length l → not (eqb a (get_or l t 0 / 65536)) ≡ fresh a (drop t l)
unfolding fresh
fresh_there a l t h = sym (ap (fresh a) (drop_at_cons l t h))

drop_two : (l : List ℕ) (t : ℕ) → t + 1 < length l → drop t l ≡ get_or l t 0 ∷ get_or l (t + 1) 0 ∷ drop (t + 2) l
drop_two l t h = drop_at_cons l t (omega arith) ∙ ap (λ (x : List ℕ). get_or l t 0 ∷ x) (drop_at_cons l (t + 1) h ∙ ap (λ (k : ℕ). get_or l (t + 1) 0 ∷ drop k l) (two_more t))
  where
    two_more : (k : ℕ) → k + 1 + 1 ≡ k + 2
    two_more k = omega arith

-- the test of what is left is that of all
pub record PairsLeft (t : ℕ → ℕ → Bool) (l : List ℕ) (k : ℕ) : Type 0 where
  pub k_le : k ≤ length l
  pub rest : in_pairs t (drop k l) ≡ in_pairs t l

pub record EachLeft (t : ℕ → ℕ → Bool) (l : List ℕ) (k : ℕ) : Type 0 where
  pub k_le : k ≤ length l
  pub rest : each_pair t (drop k l) ≡ each_pair t l

pub pairs_all : (t : ℕ → ℕ → Bool) (l : List ℕ) → PairsLeft t l 0
pairs_all t l = record { k_le = omega arith; rest = refl }

pub each_all : (t : ℕ → ℕ → Bool) (l : List ℕ) → EachLeft t l 0
each_all t l = record { k_le = omega arith; rest = refl }

no_pairs : (t : ℕ → ℕ → Bool) (x : ℕ) → (true ≡ in_pairs t []) × (false ≡ in_pairs t (x ∷ [])) × (true ≡ each_pair t []) × (true ≡ each_pair t (x ∷ []))
unfolding in_pairs each_pair
no_pairs t x = (refl, refl, refl, refl)

-- what is left at the end: nothing, or one
end_none : (l : List ℕ) (k : ℕ) → k ≡ length l → drop k l ≡ []
end_none l k e = drop_end l k (omega (arith, e))

end_one : (l : List ℕ) (k : ℕ) → k ≤ length l → length l - k ≤ 1 → (k ≡ length l → ⊥) → drop k l ≡ get_or l k 0 ∷ []
end_one l k a h n = drop_at_cons l k (less a n) ∙ ap (λ (x : List ℕ). get_or l k 0 ∷ x) (drop_end l (k + 1) (past h))
  where
    less : {c : ℕ} → k ≤ c → (k ≡ c → ⊥) → k < c
    less a b = omega (arith, b)

    past : {c : ℕ} → c - k ≤ 1 → c ≤ k + 1
    past a = omega arith

pairs_step : (t : ℕ → ℕ → Bool) (l : List ℕ) (k : ℕ) → k + 1 < length l → in_pairs t (drop k l) ≡ (two_test t (get_or l k 0) (get_or l (k + 1) 0) (drop (k + 2) l) && in_pairs t (drop (k + 2) l))
unfolding in_pairs
pairs_step t l k h = ap (in_pairs t) (drop_two l k h)

each_step : (t : ℕ → ℕ → Bool) (l : List ℕ) (k : ℕ) → k + 1 < length l → each_pair t (drop k l) ≡ (t (get_or l k 0) (get_or l (k + 1) 0) && each_pair t (drop (k + 2) l))
unfolding each_pair
each_step t l k h = ap (each_pair t) (drop_two l k h)

first_yes : (a b : Bool) → a ≡ true → (a && b) ≡ b
first_yes a b e = rw e refl

first_no : (a b : Bool) → a ≡ false → (a && b) ≡ false
first_no a b e = rw e refl

pub two_there : (n k : ℕ) → 1 < n - k → k + 1 < n
two_there n k h = omega arith

pub first_of : (n k : ℕ) → k + 1 < n → k < n
first_of n k h = omega arith

pub two_told : (t : ℕ → ℕ → Bool) (x y : ℕ) (l : List ℕ) {a b : Bool} → a ≡ fresh (x / 65536) l → b ≡ t x y → (eqb (x / 65536) (y / 65536) && a && b) ≡ two_test t x y l
two_told t x y l e f = λ i. eqb (x / 65536) (y / 65536) && e i && f i

module _ {t : ℕ → ℕ → Bool} {l : List ℕ} {k : ℕ} where
  pub pairs_more : PairsLeft t l k → 1 < length l - k → {r : Bool} → r ≡ two_test t (get_or l k 0) (get_or l (k + 1) 0) (drop (k + 2) l) → r ≡ true → PairsLeft t l (k + 2)
  pairs_more w h e f = record {
    k_le = omega arith;
    rest = sym (pairs_step t l k (two_there (length l) k h) ∙ first_yes _ _ (sym e ∙ f)) ∙ w.rest;
  }

  pub pairs_no : PairsLeft t l k → 1 < length l - k → {r : Bool} → r ≡ two_test t (get_or l k 0) (get_or l (k + 1) 0) (drop (k + 2) l) → r ≡ false → false ≡ in_pairs t l
  pairs_no w h e f = sym (pairs_step t l k (two_there (length l) k h) ∙ first_no _ _ (sym e ∙ f)) ∙ w.rest

  pub pairs_end : PairsLeft t l k → length l - k ≤ 1 → eqb k (length l) ≡ in_pairs t l
  pairs_end w h = ⊎_elim
      (λ e. eq-eqb k (length l) e ∙ (no_pairs t 0).0 ∙ ap (in_pairs t) (sym (end_none l k e)))
      (λ n. ne_eqb k (length l) n ∙ (no_pairs t (get_or l k 0)).1 ∙ ap (in_pairs t) (sym (end_one l k w.k_le h n)))
      (eq_or_ne k (length l)) ∙ w.rest

  -- where the pairs before k are h in number, as many as there are: none is left of an even number of keys, and one of an odd
  pub halves_end : (h : ℕ) → k ≡ 2 * h → PairsLeft t l k → length l / 2 ≤ h → eqb (length l % 2) 0 ≡ in_pairs t l
  halves_end h s w d = ⊎_elim
      (λ e. eq-eqb (length l % 2) 0 (even s e) ∙ sym (eq-eqb k (length l) e))
      (λ n. ne_eqb (length l % 2) 0 (λ z. n (whole (length l) s d w.k_le z)) ∙ sym (ne_eqb k (length l) n))
      (eq_or_ne k (length l)) ∙ pairs_end w (few (length l) s d)
    where
      even : {c : ℕ} → k ≡ 2 * h → k ≡ c → c % 2 ≡ 0
      even a b = omega (arith, a, b)

      whole : (c : ℕ) → k ≡ 2 * h → c / 2 ≤ h → k ≤ c → c % 2 ≡ 0 → k ≡ c
      whole c a b l z = omega (arith, a, b, l, z)

      few : (c : ℕ) → k ≡ 2 * h → c / 2 ≤ h → c - k ≤ 1
      few c a b = omega (arith, a, b)

  pub each_more : EachLeft t l k → 1 < length l - k → {r : Bool} → r ≡ t (get_or l k 0) (get_or l (k + 1) 0) → r ≡ true → EachLeft t l (k + 2)
  each_more w h e f = record {
    k_le = omega arith;
    rest = sym (each_step t l k (two_there (length l) k h) ∙ first_yes _ _ (sym e ∙ f)) ∙ w.rest;
  }

  pub each_no : EachLeft t l k → 1 < length l - k → {r : Bool} → r ≡ t (get_or l k 0) (get_or l (k + 1) 0) → r ≡ false → false ≡ each_pair t l
  each_no w h e f = sym (each_step t l k (two_there (length l) k h) ∙ first_no _ _ (sym e ∙ f)) ∙ w.rest

  pub each_end : EachLeft t l k → length l - k ≤ 1 → true ≡ each_pair t l
  each_end w h = ⊎_elim
      (λ e. (no_pairs t 0).2 ∙ ap (each_pair t) (sym (end_none l k e)))
      (λ n. (no_pairs t (get_or l k 0)).3 ∙ ap (each_pair t) (sym (end_one l k w.k_le h n)))
      (eq_or_ne k (length l)) ∙ w.rest
