-- The first of many lists: those before it are empty. Assumes nothing.
use mathlib.Core.Path.{◌≡◌, refl, sym, ap, ◌∙◌}
use mathlib.Core.Bool.{Bool, true, false}
use mathlib.Core.List.{List, [], ◌∷◌, ◌++◌}
use Prim.Native.Nat.{ℕ, zero, suc, ◌+◌, ◌≤◌, ◌<◌}
use mathlib.Core.Logic.{⊎_elim}
use native.Mathlib.Omega.{arith}
use Rattle.model.specs.Lists.{keep, tab, concat_map}
use Rattle.model.specs.Balance.{Move}
use Rattle.laws.proofs.Tests.{by_cases, last_or_below}

-- the lists of the blocks that pass
abbrev pub joined : (ℕ → Bool) → (ℕ → List Move) → ℕ → List Move
joined a f n = concat_map f (keep a (tab (λ b. b) n))

-- all lists, where those of blocks that do not pass are empty
joined_from : (a : ℕ → Bool) (f : ℕ → List Move) (h : ℕ → ℕ) (n : ℕ) → ((e : ℕ) → e < n → a (h e) ≡ false → f (h e) ≡ []) → concat_map f (tab h n) ≡ concat_map f (keep a (tab h n))
joined_from a f h zero empty = refl
joined_from a f h (suc n) empty =
    let ih = joined_from a f (λ k. h (suc k)) n (λ x k. empty (suc x) (omega arith)) in
    by_cases (a (h 0)) (λ y. rw y (ap (λ (l : List Move). f (h 0) ++ l) ih)) (λ y. rw (y, empty 0 (omega arith) y) ih)

pub all_joined : (a : ℕ → Bool) (f : ℕ → List Move) (n : ℕ) → ((e : ℕ) → e < n → a e ≡ false → f e ≡ []) → concat_map f (tab (λ b. b) n) ≡ joined a f n
all_joined a f n empty = joined_from a f (λ b. b) n empty

-- blocks h 0, h 1, .., of which those before d have none
found_from : (a : ℕ → Bool) (f : ℕ → List Move) (h : ℕ → ℕ) (n d : ℕ) → d < n → ((e : ℕ) → e < d → a (h e) ≡ true → f (h e) ≡ []) → a (h d) ≡ true
    → (t : Move) (ts : List Move) → f (h d) ≡ t ∷ ts → (us : List Move) × (concat_map f (keep a (tab h n)) ≡ t ∷ us)
found_from a f h zero d l before e t ts q = absurd (omega arith)
found_from a f h (suc n) zero l before e t ts q = (ts ++ concat_map f (keep a (tab (λ k. h (suc k)) n)), rw (e, q) refl)
found_from a f h (suc n) (suc d) l before e t ts q =
    let ih = found_from a f (λ k. h (suc k)) n d (omega arith) (λ x k. before (suc x) (omega arith)) e t ts q in
    (ih.0, by_cases (a (h 0)) (λ y. rw (y, before 0 (omega arith) y) ih.1) (λ y. rw y ih.1))

pub none_from : (a : ℕ → Bool) (f : ℕ → List Move) (h : ℕ → ℕ) (n : ℕ) → ((e : ℕ) → e < n → a (h e) ≡ true → f (h e) ≡ []) → concat_map f (keep a (tab h n)) ≡ []
none_from a f h zero before = refl
none_from a f h (suc n) before =
    let ih = none_from a f (λ k. h (suc k)) n (λ x k. before (suc x) (omega arith)) in
    by_cases (a (h 0)) (λ y. rw (y, before 0 (omega arith) y) ih) (λ y. rw y ih)

-- THE LOOP: the blocks before d that pass have no move
pub record Searching (a : ℕ → Bool) (f : ℕ → List Move) (n d : ℕ) : Type 0 where
  pub d_le : d ≤ n
  pub before : (e : ℕ) → e < d → a e ≡ true → f e ≡ []

pub searching_start : (a : ℕ → Bool) (f : ℕ → List Move) (n : ℕ) → Searching a f n 0
searching_start a f n = record { d_le = omega arith; before = λ e l. absurd (omega arith) }

module _ {a : ℕ → Bool} {f : ℕ → List Move} {n d : ℕ} (w : Searching a f n d) where
  pub searching_skip : d < n → a d ≡ false → Searching a f n (d + 1)
  searching_skip h e = record {
    d_le = omega arith;
    before = λ x l y. ⊎_elim (λ same. absurd (clash (a d) e (sym (ap a same) ∙ y))) (λ below. w.before x below y) (last_or_below l);
  }
    where
      clash : (b : Bool) → b ≡ false → b ≡ true → ⊥
      clash b p q = let z : ◌≡◌ {A = Bool} false true = sym p ∙ q in let o : ◌≡◌ {A = ℕ} 0 1 = cc in omega arith

  pub searching_none : d < n → f d ≡ [] → Searching a f n (d + 1)
  searching_none h e = record { d_le = omega arith; before = λ x l y. ⊎_elim (λ same. ap f same ∙ e) (λ below. w.before x below y) (last_or_below l) }

  pub search_found : d < n → a d ≡ true → (t : Move) (ts : List Move) → f d ≡ t ∷ ts → (us : List Move) × (joined a f n ≡ t ∷ us)
  search_found h e t ts q = found_from a f (λ b. b) n d h w.before e t ts q

  pub search_end : n ≤ d → joined a f n ≡ []
  search_end h = none_from a f (λ b. b) n (λ e l. w.before e (omega arith))
