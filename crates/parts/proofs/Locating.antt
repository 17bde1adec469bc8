-- The labels of part 2 found in the block, dart by dart. Assumes nothing.
use Rattle.std.specs.Prelude.{None, Some}
use mathlib.Core.Path.{◌≡◌, refl, sym, ◌∙◌, ap, subst}
use mathlib.Core.Bool.{true, false, true≢false}
use mathlib.Core.List.{List}
use mathlib.Core.Logic.{⊎_elim, inl, inr}
use Prim.Native.Nat.{ℕ, ◌+◌, ◌≤◌, ◌<◌}
use native.Mathlib.Omega.{arith}
use lib.ListN.{length, get_or, set, length-set}
use lib.Seq.{get_or-set_same, get_or-set_other}
use Rattle.model.specs.Image.{column, is_critical_word}
use Rattle.laws.specs.Order.{Ascending}
use Rattle.laws.proofs.Tests.{by_cases, eq_or_ne, last_or_below}
use Rattle.laws.proofs.Tables.{one_place}
use Rattle.ranking.specs.Ranks.{value_at, index_at, rank_in, Ranked}
use Rattle.ranking.proofs.Found.{rank_at, rank_nothing}
use Rattle.parts.specs.Locate.{none_there, Noted, LocatedAt, Located}

-- ONE DART
module _ (m keys : List ℕ) (c p : ℕ) (a : List ℕ) where
  pub noted_free : is_critical_word (column m 3 p) ≡ false → Noted m keys c p a a
  noted_free h = record { size = refl; hit = λ k. absurd (true≢false (sym k ∙ h)); other = λ e k. refl }

  pub noted_none : rank_in (value_at keys) c (column m 4 p) ≡ None → Noted m keys c p a a
  noted_none e = record { size = refl; hit = λ k r h q. absurd (rank_nothing (value_at keys) c (column m 4 p) e r h q); other = λ d k. refl }

  pub noted_found : {r : ℕ} → is_critical_word (column m 3 p) ≡ true → Ascending c (value_at keys) → c ≤ length a → ((r : ℕ) → r < c → index_at keys r < c)
      → rank_in (value_at keys) c (column m 4 p) ≡ Some r → Noted m keys c p a (set a (index_at keys r) p)
  noted_found {r} h up few below e =
      let w = rank_at (value_at keys) c (column m 4 p) e in
      record {
        size = length-set a (index_at keys r) p;
        hit = λ k s l q. let same : s ≡ r = one_place up l w.0 (q ∙ sym w.1) in
            ap (λ (i : ℕ). get_or (set a (index_at keys r) p) (index_at keys i) 0) same ∙ get_or-set_same a (index_at keys r) p 0 (let b = below r w.0 in omega arith);
        other = λ d k. get_or-set_other a (index_at keys r) d p 0 (λ q. k h r w.0 w.1 (sym q));
      }

pub found_below : (keys : List ℕ) (c x : ℕ) {r : ℕ} → rank_in (value_at keys) c x ≡ Some r → r < c
found_below keys c x e = (rank_at (value_at keys) c x e).0

-- ALL
pub located_none : (m codes : List ℕ) (c : ℕ) {a : List ℕ} → ((e : ℕ) → e < c → get_or a e 0 ≡ none_there) → Located m codes c 0 a
located_none m codes c {a} none = record { each = λ d h. inr (none d h, λ p l. absurd (omega arith)) }

pub located_more : {m codes keys ranks : List ℕ} {c p : ℕ} {a a' : List ℕ} → Ranked codes c keys ranks → Located m codes c p a → Noted m keys c p a a' → Located m codes c (p + 1) a'
located_more {m} {codes} {keys} {ranks} {c} {p} {a} {a'} w l n = record { each = λ e h. go e h }
  where
    value_of : (e : ℕ) → e < c → value_at keys (get_or ranks e 0) ≡ get_or codes e 0
    value_of e h = w.value_is (get_or ranks e 0) (w.rank_below e h) ∙ ap (λ (i : ℕ). get_or codes i 0) (w.index_rank e h)

    miss : (e : ℕ) → e < c → (is_critical_word (column m 3 p) ≡ true → column m 4 p ≡ get_or codes e 0 → ⊥) → LocatedAt m (get_or codes e 0) (p + 1) (get_or a' e 0)
    miss e h never = subst (LocatedAt m (get_or codes e 0) (p + 1)) (sym (n.other e (λ k r u q d. never k (sym q ∙ w.value_is r u ∙ ap (λ (i : ℕ). get_or codes i 0) d))))
        (⊎_elim
        (λ (o : (get_or a e 0 < p) × (is_critical_word (column m 3 (get_or a e 0)) ≡ true) × (column m 4 (get_or a e 0) ≡ get_or codes e 0)). inl (let b = o.0 in omega arith, o.1, o.2))
        (λ (o : (get_or a e 0 ≡ none_there) × ((q : ℕ) → q < p → is_critical_word (column m 3 q) ≡ true → column m 4 q ≡ get_or codes e 0 → ⊥)). inr (
          o.0,
          λ q u k d. ⊎_elim
              (λ (s : q ≡ p). never (subst (λ (i : ℕ). is_critical_word (column m 3 i) ≡ true) s k) (sym (ap (column m 4) s) ∙ d))
              (λ (s : q < p). o.1 q s k d)
              (last_or_below u),
        ))
        (l.each e h))

    go : (e : ℕ) → e < c → LocatedAt m (get_or codes e 0) (p + 1) (get_or a' e 0)
    go e h = by_cases (is_critical_word (column m 3 p))
        (λ k. ⊎_elim
        (λ (d : column m 4 p ≡ get_or codes e 0).
        let at : get_or a' e 0 ≡ p = ap (λ (i : ℕ). get_or a' i 0) (sym (w.index_rank e h)) ∙ n.hit k (get_or ranks e 0) (w.rank_below e h) (value_of e h ∙ sym d) in
        subst (LocatedAt m (get_or codes e 0) (p + 1)) (sym at) (inl (omega arith, k, d)))
        (λ (d : column m 4 p ≡ get_or codes e 0 → ⊥). miss e h (λ k q. d q))
        (eq_or_ne (column m 4 p) (get_or codes e 0)))
        (λ k. miss e h (λ u q. true≢false (sym u ∙ k)))

pub located_all : {m codes : List ℕ} {c p n : ℕ} {a : List ℕ} → Located m codes c p a → p ≤ n → n ≤ p → Located m codes c n a
located_all {m} {codes} {c} {p} {n} {a} w h k = let e : p ≡ n = omega arith in rw e at w
