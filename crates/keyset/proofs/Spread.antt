-- Keys are put into slots one by one: a key that is there already is met. Assumes nothing.
use mathlib.Core.Path.{◌≡◌, sym, ap, ◌∙◌}
use mathlib.Core.List.{List}
use mathlib.Core.Logic.{⊎_elim}
use Prim.Native.Nat.{ℕ, ◌+◌, ◌-◌, ◌≤◌, ◌<◌}
use native.Mathlib.Omega.{arith}
use native.Mathlib.Nat.{eq-or-lt_of_le}
use lib.ListN.{length, get_or, set, replicate, length-set, length-replicate}
use lib.Seq.{get_or-set_same, get_or-set_other}
use Rattle.laws.proofs.Tests.{lt_or_ge, eq_or_ne, last_or_below}
use Rattle.laws.proofs.Lists.{getD_zeros}
use Rattle.keyset.specs.Slots.{slot_of, key_at, Probed, KeysApart, Searched}
use Rattle.keyset.specs.declared.Search.TheVariants.{Repeated}

-- A SEARCH that has come to t
pub record Going (keys table : List ℕ) (x h t : ℕ) : Type 0 where
  pub from : h ≤ t
  pub to : t ≤ h + 64
  pub passed : (u : ℕ) → h ≤ u → u < t → (get_or table u 0 ≡ 0 → ⊥) × (key_at keys table u ≡ x → ⊥)

-- THE FIRST i KEYS, each in a slot
pub record Spread (keys table : List ℕ) (i : ℕ) : Type 0 where
  pub len : length table ≡ 8256
  pub only : (t : ℕ) → get_or table t 0 ≤ i
  pub kept : (k : ℕ) → k < i → (t : ℕ) × (slot_of (get_or keys k 0) ≤ t) × (get_or table t 0 ≡ k + 1) × ((u : ℕ) → slot_of (get_or keys k 0) ≤ u → u < t → get_or table u 0 ≡ 0 → ⊥)
  pub apart : KeysApart keys i

pub none_spread : (keys table : List ℕ) → table ≡ replicate 8256 0 → Spread keys table 0
none_spread keys table e = record {
  len = ap length e ∙ length-replicate {A = ℕ} 8256 0;
  only = λ t. let z : get_or table t 0 ≡ 0 = ap (λ (l : List ℕ). get_or l t 0) e ∙ getD_zeros 8256 t in omega (arith, z);
  kept = λ k h. absurd (omega arith);
  apart = λ p q a b. absurd (omega arith);
}

module _ {keys table : List ℕ} {i : ℕ} (w : Spread keys table i) {x h s : ℕ} (ex : x ≡ get_or keys i 0) (eh : h ≡ slot_of x) (p : Probed keys table x h s) where
  here : h ≡ slot_of (get_or keys i 0)
  here = eh ∙ ap slot_of ex

  -- the slot holds a key
  pub twice : (n : ℕ) → i < n → (s ≡ h + 64 → ⊥) → (get_or table s 0 ≡ 0 → ⊥) → Searched keys n Repeated
  twice n l b z =
      λ a. ⊎_elim (λ e. z e) (λ e. a (get_or table s 0 - 1) i (omega (arith, w.only s, positive)) l (e ∙ ex))
      (p.found (⊎_elim (λ q. absurd (b q)) (λ q. q) (eq-or-lt_of_le p.to)))
    where
      positive : 0 < get_or table s 0
      positive = ⊎_elim (λ q. q) (λ q. absurd (z (omega arith))) (lt_or_ge 0 (get_or table s 0))

  -- the slot is free
  pub one_more : s < 8256 → get_or table s 0 ≡ 0 → Spread keys (set table s (i + 1)) (i + 1)
  one_more l z = record {
    len = simp length-set w.len;
    only = λ t. ⊎_elim (λ e. rw e (omega (arith, hit))) (λ e. omega (arith, miss t e, w.only t)) (eq_or_ne t s);
    kept = λ k b. ⊎_elim (λ e. rw e new) (λ b'. old k b') (last_or_below b);
    apart = λ a b ab bn. ⊎_elim (λ e. rw e (fresh a (omega (arith, ab, e)))) (λ b'. w.apart a b ab b') (last_or_below bn);
  }
    where
      hit : get_or (set table s (i + 1)) s 0 ≡ i + 1
      hit = get_or-set_same table s (i + 1) 0 (omega (arith, w.len))

      miss : (t : ℕ) → (t ≡ s → ⊥) → get_or (set table s (i + 1)) t 0 ≡ get_or table t 0
      miss t e = get_or-set_other table s t (i + 1) 0 e

      stays : (u : ℕ) → (get_or table u 0 ≡ 0 → ⊥) → get_or (set table s (i + 1)) u 0 ≡ 0 → ⊥
      stays u a e = ⊎_elim (λ q. let f : i + 1 ≡ 0 = sym hit ∙ ap (λ (y : ℕ). get_or (set table s (i + 1)) y 0) (sym q) ∙ e in omega arith) (λ q. a (sym (miss u q) ∙ e)) (eq_or_ne u s)

      new : (t : ℕ) × (slot_of (get_or keys i 0) ≤ t) × (get_or (set table s (i + 1)) t 0 ≡ i + 1) × ((u : ℕ) → slot_of (get_or keys i 0) ≤ u → u < t → get_or (set table s (i + 1)) u 0 ≡ 0 → ⊥)
      new = (s, omega (arith, p.from, here), hit, λ u a b. stays u (p.passed u (omega (arith, here)) b).0)

      old : (k : ℕ) → k < i
          → (t : ℕ) × (slot_of (get_or keys k 0) ≤ t) × (get_or (set table s (i + 1)) t 0 ≡ k + 1)
          × ((u : ℕ) → slot_of (get_or keys k 0) ≤ u → u < t → get_or (set table s (i + 1)) u 0 ≡ 0 → ⊥)
      old k b =
          let r = w.kept k b in
          let other : r.0 ≡ s → ⊥ = λ e. omega (arith, ap (λ (y : ℕ). get_or table y 0) e, z, r.2) in
          (r.0, r.1, miss r.0 other ∙ r.2, λ u c d. stays u (r.3 u c d))

      fresh : (k : ℕ) → k < i → get_or keys k 0 ≡ get_or keys i 0 → ⊥
      fresh k b e =
          let r = w.kept k b in
          let start : h ≡ slot_of (get_or keys k 0) = here ∙ ap slot_of (sym e) in
          let back : key_at keys table r.0 ≡ x =
          let j : get_or table r.0 0 - 1 ≡ k = omega (arith, r.2) in ap (λ (y : ℕ). get_or keys y 0) j ∙ e ∙ sym ex in
          ⊎_elim (λ q. (p.passed r.0 (omega (arith, r.1, start)) q).1 back)
          (λ q. ⊎_elim (λ same. omega (arith, ap (λ (y : ℕ). get_or table y 0) same, z, r.2))
          (λ different. r.3 s (omega (arith, p.from, start)) (omega (arith, different_lt r.0 s q different)) z)
          (eq_or_ne r.0 s))
          (lt_or_ge r.0 s)
        where
          different_lt : (a b : ℕ) → b ≤ a → (a ≡ b → ⊥) → b < a
          different_lt a b q d = ⊎_elim (λ l. l) (λ l. absurd (d (omega arith))) (lt_or_ge b a)
