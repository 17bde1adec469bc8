-- The places that are not marked: which they are, one more of them, and the index of a serial among theirs. Assumes nothing.
use mathlib.Core.Path.{◌≡◌, refl, sym, ◌∙◌, ap}
use mathlib.Core.Bool.{Bool, true, not}
use mathlib.Core.List.{List, [], ◌∷◌, ◌++◌, map, append-nil}
use Prim.Native.Nat.{ℕ, zero, suc, ◌+◌, ◌≤◌, ◌<◌}
use native.Mathlib.Omega.{arith}
use native.Mathlib.Numerals.{add-one}
use lib.Dec.{eqb}
use lib.ListN.{length, get_or, length-append}
use borrow.Author.Tests.{eqb-false, eq-eqb, ne_eqb, not-true}
use Rattle.model.specs.Lists.{keep, tab, index_of}
use Rattle.laws.specs.Order.{Ascending}
use Rattle.laws.proofs.Tests.{by_cases}
use Rattle.laws.proofs.Maps.{tab_more}
use Rattle.laws.proofs.Members.{In, keep_in, keep_le}
use Rattle.laws.proofs.Tables.{length_tab, tail_ascends}
use Rattle.cells.proofs.Reached.{places, places_below}
use Rattle.cells.proofs.FaceLaws.{keep_append}
use Rattle.release.specs.LetGo.{unmarked, rank}

-- WHICH THEY ARE
pub unmarked_in : (n : ℕ) (marks : List ℕ) (p : ℕ) → In p (unmarked n marks) → (p < n) × (get_or marks p 0 ≡ 1 → ⊥)
unfolding unmarked
unmarked_in n marks p h = let r = keep_in (λ q. not (eqb (get_or marks q 0) 1)) (places n) p h in (places_below n p r.0, eqb-false (get_or marks p 0) 1 (not-true (eqb (get_or marks p 0) 1) r.1))

-- ONE PLACE MORE
module _ (n : ℕ) (marks : List ℕ) where
  more : unmarked (n + 1) marks ≡ unmarked n marks ++ keep (λ p. not (eqb (get_or marks p 0) 1)) (n ∷ [])
  unfolding unmarked
  more = ap (λ (k : ℕ). keep (λ p. not (eqb (get_or marks p 0) 1)) (places k)) (add-one n)
      ∙ ap (keep (λ p. not (eqb (get_or marks p 0) 1))) (sym (tab_more (λ p. p) n)) ∙ keep_append (λ p. not (eqb (get_or marks p 0) 1)) (places n) (n ∷ [])

  pub unmarked_one : (get_or marks n 0 ≡ 1 → ⊥) → unmarked (n + 1) marks ≡ unmarked n marks ++ n ∷ []
  unmarked_one h = more ∙ rw (ne_eqb (get_or marks n 0) 1 h)

  pub unmarked_none : get_or marks n 0 ≡ 1 → unmarked (n + 1) marks ≡ unmarked n marks
  unmarked_none h = more ∙ rw (eq-eqb (get_or marks n 0) 1 h) (append-nil (unmarked n marks))

  pub rank_one : (get_or marks n 0 ≡ 1 → ⊥) → rank marks (n + 1) ≡ rank marks n + 1
  unfolding rank
  rank_one h = ap length (unmarked_one h) ∙ length-append (unmarked n marks) (n ∷ [])

  pub rank_none : get_or marks n 0 ≡ 1 → rank marks (n + 1) ≡ rank marks n
  unfolding rank
  rank_none h = ap length (unmarked_none h)

  pub rank_le : rank marks n ≤ n
  unfolding rank unmarked
  rank_le = omega (arith, keep_le (λ p. not (eqb (get_or marks p 0) 1)) (places n), length_tab (λ (p : ℕ). p) n)

-- THE INDEX of a serial among those of the places that pass a test
index_kept : (s : ℕ → ℕ) (t : ℕ → Bool) (g : ℕ → ℕ) (n x : ℕ) → Ascending n (λ k. s (g k)) → x < n → t (g x) ≡ true → index_of (s (g x)) (map s (keep t (tab g n))) ≡ length (keep t (tab g x))
unfolding index_of
index_kept s t g zero x a h e = absurd (omega arith)
index_kept s t g (suc n) zero a h e = rw (e, eq-eqb (s (g 0)) (s (g 0)) refl)
index_kept s t g (suc n) (suc x) a h e =
    let later = index_kept s t (λ k. g (suc k)) n x (tail_ascends a) (omega arith) e in
    by_cases (t (g 0))
    (λ f. rw (f, ne_eqb (s (g (suc x))) (s (g 0)) (λ q. omega (arith, a 0 (suc x) (omega arith) h))) (ap suc later))
    (λ f. rw f later)

pub index_rank : (s : ℕ → ℕ) (marks : List ℕ) (n x : ℕ) → Ascending n s → x < n → (get_or marks x 0 ≡ 1 → ⊥) → index_of (s x) (map s (unmarked n marks)) ≡ rank marks x
unfolding unmarked rank
index_rank s marks n x a h e = index_kept s (λ p. not (eqb (get_or marks p 0) 1)) (λ k. k) n x a h (rw (ne_eqb (get_or marks x 0) 1 e))
