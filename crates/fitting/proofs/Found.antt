-- What is found among links that are put together, and among those that sew faces. Assumes nothing.
use mathlib.Core.Path.{◌≡◌, refl, ◌∙◌, ap}
use mathlib.Core.List.{List, [], ◌∷◌, ◌++◌}
use mathlib.Core.Option.{Option, none, some}
use Prim.Native.Nat.{ℕ, zero, suc, ◌<◌}
use native.Mathlib.Omega.{arith}
use lib.Dec.{eqb}
use borrow.Author.Tests.{eq-eqb, ne_eqb}
use Rattle.model.specs.Lists.{tab, find, zip, concat_map}
use Rattle.model.specs.Values.{sewn}
use Rattle.model.specs.Links.{Link, sew_both}
use Rattle.laws.proofs.Tests.{by_cases}

-- the first of two that is there
abbrev first : {A : Type 0} → Option A → Option A → Option A
first none o = o
first (some d) o = some d

found_append : {A : Type 0} (key : A → ℕ) (y : ℕ) (l r : List A) → find key y (l ++ r) ≡ first (find key y l) (find key y r)
found_append key y [] r = refl
found_append key y (a ∷ l) r = by_cases (eqb y (key a)) (λ t. rw t refl) (λ t. rw t (found_append key y l r))

pub found_left : {A : Type 0} (key : A → ℕ) (y : ℕ) (l r : List A) {d : A} → find key y l ≡ some d → find key y (l ++ r) ≡ some d
found_left {A} key y l r e = found_append key y l r ∙ ap (λ (o : Option A). first o (find key y r)) e

pub found_right : {A : Type 0} (key : A → ℕ) (y : ℕ) (l r : List A) {o : Option A} → find key y l ≡ none → find key y r ≡ o → find key y (l ++ r) ≡ o
found_right {A} key y l r e f = found_append key y l r ∙ ap (λ (o : Option A). first o (find key y r)) e ∙ f

-- AMONG LISTS BY INDEX
module _ {A B : Type 0} (key : A → ℕ) (of : B → List A) (y : ℕ) where
  pub never_found : (g : ℕ → B) (n : ℕ) → ((i : ℕ) → i < n → find key y (of (g i)) ≡ none) → find key y (concat_map of (tab g n)) ≡ none
  never_found g zero h = refl
  never_found g (suc n) h = found_right key y (of (g 0)) (concat_map of (tab (λ i. g (suc i)) n)) (h 0 (omega arith)) (never_found (λ i. g (suc i)) n (λ i l. h (suc i) (omega arith)))

  pub found_at : (g : ℕ → B) (n p : ℕ) {d : A} → p < n → find key y (of (g p)) ≡ some d → ((i : ℕ) → i < p → find key y (of (g i)) ≡ none) → find key y (concat_map of (tab g n)) ≡ some d
  found_at g zero p l e h = absurd (omega arith)
  found_at g (suc n) zero l e h = found_left key y (of (g 0)) (concat_map of (tab (λ i. g (suc i)) n)) e
  found_at g (suc n) (suc p) l e h =
      found_right key y (of (g 0)) (concat_map of (tab (λ i. g (suc i)) n)) (h 0 (omega arith))
      (found_at (λ i. g (suc i)) n p (omega arith) e (λ i u. h (suc i) (omega arith)))

-- AMONG THE LINKS THAT SEW f TO g
abbrev both : ℕ × ℕ → List Link
both p = record { dart = p.0; third = sewn p.1 } ∷ record { dart = p.1; third = sewn p.0 } ∷ []

pub sew_tab : (f g : ℕ → ℕ) (n : ℕ) → sew_both (zip (tab f n) (tab g n)) ≡ sew_both (tab (λ j. (f j, g j)) n)
sew_tab f g zero = refl
sew_tab f g (suc n) = ap (λ (l : List Link). both (f 0, g 0) ++ l) (sew_tab (λ j. f (suc j)) (λ j. g (suc j)) n)

both_none : (y a b : ℕ) → (y ≡ a → ⊥) → (y ≡ b → ⊥) → find (λ l. l.dart) y (both (a, b)) ≡ none
both_none y a b u v = rw (ne_eqb y a u, ne_eqb y b v) refl

both_new : (a b : ℕ) → find (λ l. l.dart) a (both (a, b)) ≡ some (record { dart = a; third = sewn b })
both_new a b = rw (eq-eqb a a refl) refl

both_old : (a b : ℕ) → (b ≡ a → ⊥) → find (λ l. l.dart) b (both (a, b)) ≡ some (record { dart = b; third = sewn a })
both_old a b u = rw (ne_eqb b a u, eq-eqb b b refl) refl

module _ (f g : ℕ → ℕ) (n : ℕ) where
  pub sewn_none : (y : ℕ) → ((j : ℕ) → j < n → y ≡ f j → ⊥) → ((j : ℕ) → j < n → y ≡ g j → ⊥) → find (λ l. l.dart) y (sew_both (tab (λ j. (f j, g j)) n)) ≡ none
  sewn_none y u v = never_found (λ l. l.dart) both y (λ j. (f j, g j)) n (λ j h. both_none y (f j) (g j) (u j h) (v j h))

  pub sewn_new : (j : ℕ) → j < n → ((i : ℕ) → i < j → f j ≡ f i → ⊥) → ((i : ℕ) → i < j → f j ≡ g i → ⊥)
      → find (λ l. l.dart) (f j) (sew_both (tab (λ j. (f j, g j)) n)) ≡ some (record { dart = f j; third = sewn (g j) })
  sewn_new j h u v = found_at (λ l. l.dart) both (f j) (λ j. (f j, g j)) n j h (both_new (f j) (g j)) (λ i l. both_none (f j) (f i) (g i) (u i l) (v i l))

  pub sewn_old : (j : ℕ) → j < n → (g j ≡ f j → ⊥) → ((i : ℕ) → i < j → g j ≡ f i → ⊥) → ((i : ℕ) → i < j → g j ≡ g i → ⊥)
      → find (λ l. l.dart) (g j) (sew_both (tab (λ j. (f j, g j)) n)) ≡ some (record { dart = g j; third = sewn (f j) })
  sewn_old j h o u v = found_at (λ l. l.dart) both (g j) (λ j. (f j, g j)) n j h (both_old (f j) (g j) o) (λ i l. both_none (g j) (f i) (g i) (u i l) (v i l))
