-- Tests of all places below a bound, and tests that are the same. Assumes nothing.
use mathlib.Core.Path.{◌≡◌, refl, sym, ap, ◌∙◌}
use mathlib.Core.Bool.{Bool, true, false, ◌&&◌}
use mathlib.Core.Logic.{◌⊎◌, inl, inr}
use Prim.Native.Nat.{ℕ, zero, suc, ◌+◌, ◌<◌}
use native.Mathlib.Omega.{arith}
use native.Mathlib.Numerals.{add-one}
use native.Mathlib.Nat.{eq-or-lt_of_le, le_of_suc-le-suc}
use Rattle.model.specs.Lists.{all, tab}
use Rattle.laws.proofs.Tests.{and_intro, and_left, and_right, same_truth}
use Rattle.laws.proofs.Tables.{all_tab, tab_all}
use Rattle.columns.specs.Columns.{all_below}

pub and_no : (a b : Bool) → b ≡ false → (a && b) ≡ false
and_no true b p = p
and_no false b p = refl

module _ (t : ℕ → Bool) where
  pub below_at : (n : ℕ) → all_below t n ≡ true → (p : ℕ) → p < n → t p ≡ true
  unfolding all_below
  below_at zero e p h = absurd (omega arith)
  below_at (suc n) e p h = go (below_at n (and_left _ _ e)) (eq-or-lt_of_le (le_of_suc-le-suc h))
    where
      go : ((p : ℕ) → p < n → t p ≡ true) → (p ≡ n) ⊎ (p < n) → t p ≡ true
      go r (inl q) = ap t q ∙ and_right (all_below t n) _ e
      go r (inr l) = r p l

  pub at_below : (n : ℕ) → ((p : ℕ) → p < n → t p ≡ true) → all_below t n ≡ true
  unfolding all_below
  at_below zero h = refl
  at_below (suc n) h = and_intro (at_below n (λ p l. h p (omega arith))) (h n (omega arith))

  -- a loop's steps
  pub below_none : true ≡ all_below t 0
  unfolding all_below
  below_none = refl

  pub below_step : (i : ℕ) {a b : Bool} → a ≡ all_below t i → b ≡ t i → (a && b) ≡ all_below t (i + 1)
  unfolding all_below
  below_step i e f = rw (e, f, add-one) refl

  pub below_more : (i : ℕ) → true ≡ all_below t i → t i ≡ true → true ≡ all_below t (i + 1)
  unfolding all_below
  below_more i e f = rw add-one (sym (and_intro (sym e) f))

  pub below_false : (n i : ℕ) → i < n → t i ≡ false → false ≡ all_below t n
  unfolding all_below
  below_false zero i h e = absurd (omega arith)
  below_false (suc n) i h e = go (λ l. below_false n i l e) (eq-or-lt_of_le (le_of_suc-le-suc h))
    where
      go : (i < n → false ≡ all_below t n) → (i ≡ n) ⊎ (i < n) → false ≡ (all_below t n && t n)
      go r (inl q) = sym (and_no (all_below t n) (t n) (ap t (sym q) ∙ e))
      go r (inr l) = rw (← r l) refl

-- the model's test of a list, by places
pub all_is : {A : Type 0} (q : A → Bool) (f : ℕ → A) (n : ℕ) → all_below (λ p. q (f p)) n ≡ all q (tab f n)
all_is q f n = same_truth (all_below (λ p. q (f p)) n) (all q (tab f n)) (λ e. tab_all q f n (below_at (λ p. q (f p)) n e)) (λ e. at_below (λ p. q (f p)) n (all_tab q f n e))

pub all_tests : {A : Type 0} (q : A → Bool) (f : ℕ → A) (t : ℕ → Bool) (n : ℕ) → ((p : ℕ) → p < n → q (f p) ≡ t p) → all_below t n ≡ all q (tab f n)
all_tests q f t n h = same_truth (all_below t n) (all q (tab f n)) (λ e. tab_all q f n (λ p l. h p l ∙ below_at t n e p l)) (λ e. at_below t n (λ p l. sym (h p l) ∙ all_tab q f n e p l))
