-- Maps and tables element by element, and the index of what is not there. Assumes nothing.
use mathlib.Core.Path.{◌≡◌, refl, ap}
use mathlib.Core.Bool.{Bool, true, false}
use mathlib.Core.List.{List, [], ◌∷◌, ◌++◌, map}
use Prim.Native.Nat.{ℕ, zero, suc, ◌<◌}
use native.Mathlib.Omega.{arith}
use lib.Dec.{eqb}
use lib.ListN.{length, get_or}
use Rattle.model.specs.Lists.{all, mem, tab, index_of}
use Rattle.laws.proofs.Tests.{by_cases, and_intro, and_left, and_right}

module _ {A : Type 0} where
  -- a test that follows from another
  pub all_weaken : (p q : A → Bool) (l : List A) → ((x : A) → p x ≡ true → q x ≡ true) → all p l ≡ true → all q l ≡ true
  all_weaken p q [] h e = refl
  all_weaken p q (x ∷ l) h e = and_intro (h x (and_left (p x) _ e)) (all_weaken p q l h (and_right (p x) _ e))

  -- one element more
  pub tab_more : (f : ℕ → A) (n : ℕ) → tab f n ++ f n ∷ [] ≡ tab f (suc n)
  tab_more f zero = refl
  tab_more f (suc n) = ap (λ (l : List A). f 0 ∷ l) (tab_more (λ k. f (suc k)) n)

module _ {A B : Type 0} where
  -- two functions that agree on the elements
  pub map_where : (p : A → Bool) (f g : A → B) (l : List A) → ((x : A) → p x ≡ true → f x ≡ g x) → all p l ≡ true → map f l ≡ map g l
  map_where p f g [] h e = refl
  map_where p f g (x ∷ l) h e = rw (h x (and_left (p x) _ e), map_where p f g l h (and_right (p x) _ e))

  pub map_at : (f : A → B) (d : A) (e : B) (l : List A) (p : ℕ) → p < length l → get_or (map f l) p e ≡ f (get_or l p d)
  map_at f d e [] p h = absurd (omega arith)
  map_at f d e (a ∷ l) zero h = refl
  map_at f d e (a ∷ l) (suc p) h = map_at f d e l p (omega arith)

pub map_self : {A : Type 0} (l : List A) → map (λ x. x) l ≡ l
map_self [] = refl
map_self (x ∷ l) = ap (λ (t : List _). x ∷ t) (map_self l)

pub index_absent : (x : ℕ) (l : List ℕ) → mem x l ≡ false → index_of x l ≡ length l
unfolding index_of
index_absent x [] h = refl
index_absent x (y ∷ l) h = by_cases (eqb x y)
    (λ e. let z : ◌≡◌ {A = ℕ} 0 1 = told (rw e at h) in absurd (omega arith))
    (λ e. rw e (ap suc (index_absent x l (rw e at h))))
  where
    told : ◌≡◌ {A = Bool} true false → ◌≡◌ {A = ℕ} 0 1
    told q = cc
