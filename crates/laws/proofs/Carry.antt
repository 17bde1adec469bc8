-- Links that agree on a closed set reach the same from within it; and an injective map that carries links carries what they reach.
-- Assumes nothing.
use mathlib.Core.Path.{◌≡◌, refl, sym, ◌∙◌, ap}
use mathlib.Core.Bool.{true, true≢false}
use mathlib.Core.List.{List, [], ◌∷◌, map}
use Prim.Native.Nat.{ℕ, zero, suc, ◌*◌}
use lib.Dec.{leb, eqb}
use borrow.Author.Tests.{eqb-true, eqb-false, eq-eqb, ne_eqb}
use Rattle.model.specs.Lists.{all, keep, mem, least, ascending}
use Rattle.model.specs.Cells.{faces, around, cycle, reach, volume, ring, vertex}
use Rattle.laws.proofs.Tests.{by_cases}
use Rattle.laws.proofs.Members.{In, in_here, in_there, in_cons, in_keep, keep_in, keep_ascending, ascending_unique, Each}

-- links that agree on a closed set give the same cycles and volumes from within it
module _ (f f' : ℕ → ℕ) (P : ℕ → Type 0) (pf : (x : ℕ) → P x → P (f x)) (ef : (x : ℕ) → P x → f x ≡ f' x) where
  pub around_cong : (s n x : ℕ) → P x → around f s n x ≡ around f' s n x
  unfolding around
  around_cong s zero x p = refl
  around_cong s (suc n) x p = rw (around_cong s n (f x) (pf x p), ef x p)

  module _ (g g' : ℕ → ℕ) (pg : (x : ℕ) → P x → P (g x)) (eg : (x : ℕ) → P x → g x ≡ g' x) where
    pub reach_cong : (n : ℕ) (seen todo : List ℕ) → ((x : ℕ) → In x todo → P x) → reach f g n seen todo ≡ reach f' g' n seen todo
    unfolding reach
    reach_cong zero seen todo h = refl
    reach_cong (suc n) seen [] h = refl
    reach_cong (suc n) seen (x ∷ todo) h =
        let p : P x = h x (in_here x todo) in
        rw (
          reach_cong n seen todo (λ y k. h y (in_there y x todo k)),
          reach_cong n (x ∷ seen) (f x ∷ g x ∷ todo) (λ y k. in_cons y (f x) (g x ∷ todo) k (λ e. rw e (pf x p)) (λ j. in_cons y (g x) todo j (λ e. rw e (pg x p)) (λ i. h y (in_there y x todo i)))),
          ef x p,
          eg x p,
        )

    pub volume_cong : (s : ℕ) → P s → volume f g s ≡ volume f' g' s
    unfolding volume
    volume_cong s p = reach_cong (3 * 4096) [] (s ∷ []) (λ y k. in_cons y s [] k (λ e. rw e p) (λ j. absurd (true≢false (sym j))))

-- the same volume out of two ascending lists that hold it
pub volume_twice : (v l r : List ℕ) → ascending l ≡ true → ascending r ≡ true → ((x : ℕ) → In x v → In x l) → ((x : ℕ) → In x v → In x r)
    → keep (λ x. mem x v) l ≡ keep (λ x. mem x v) r
volume_twice v l r a b f g = ascending_unique (keep (λ x. mem x v) l) (keep (λ x. mem x v) r) (keep_ascending (λ x. mem x v) l a) (keep_ascending (λ x. mem x v) r b)
    (λ x h. let k = (keep_in (λ x. mem x v) l x h).1 in in_keep (λ x. mem x v) x r (g x k) k)
    (λ x h. let k = (keep_in (λ x. mem x v) r x h).1 in in_keep (λ x. mem x v) x l (f x k) k)

pub faces_cong : (f f' : ℕ → ℕ) (P : ℕ → Type 0) → ((x : ℕ) → P x → P (f x)) → ((x : ℕ) → P x → f x ≡ f' x) → (v : List ℕ) → ((x : ℕ) → In x v → P x) → faces f v ≡ faces f' v
unfolding faces cycle
faces_cong f f' P pf ef v h = go v h
  where
    step : (x : ℕ) → P x → around f x 4096 x ≡ around f' x 4096 x
    step x p = around_cong f f' P pf ef x 4096 x p

    go : (l : List ℕ) → ((x : ℕ) → In x l → P x)
        → map (cycle f) (keep (λ x. all (leb x) (cycle f x)) l) ≡ map (cycle f') (keep (λ x. all (leb x) (cycle f' x)) l)
    go [] k = refl
    go (x ∷ l) k = rw (step x (k x (in_here x l))) (by_cases (all (leb x) (around f' x 4096 x))
        (λ e. rw (e, step x (k x (in_here x l)), go l (λ y m. k y (in_there y x l m))))
        (λ e. rw (e, go l (λ y m. k y (in_there y x l m)))))

module _ (f f' g g' : ℕ → ℕ) (P : ℕ → Type 0) (pf : (x : ℕ) → P x → P (f x)) (pg : (x : ℕ) → P x → P (g x))
    (ef : (x : ℕ) → P x → f x ≡ f' x) (eg : (x : ℕ) → P x → g x ≡ g' x) where
  pub vertex_cong : (x : ℕ) → P x → vertex f g x ≡ vertex f' g' x
  unfolding vertex ring cycle
  vertex_cong x p = ap least (around_cong (λ d. f (g d)) (λ d. f' (g' d)) P (λ y q. pf (g y) (pg y q)) (λ y q. ef (g y) (pg y q) ∙ ap f' (eg y q)) x 4096 x p)

-- CARRYING: h turns one link into the other
module _ (D : ℕ → Type 0) (h : ℕ → ℕ) (inj : (x y : ℕ) → D x → D y → h x ≡ h y → x ≡ y) where
  same_test : (x y : ℕ) → D x → D y → eqb (h x) (h y) ≡ eqb x y
  same_test x y dx dy = by_cases (eqb x y)
      (λ e. rw e (eq-eqb _ _ (ap h (eqb-true x y e))))
      (λ e. rw e (ne_eqb _ _ (λ q. eqb-false x y e (inj x y dx dy q))))

  same_mem : (x : ℕ) (l : List ℕ) → D x → Each D l → mem (h x) (map h l) ≡ mem x l
  same_mem x [] dx dl = refl
  same_mem x (y ∷ l) dx dl = rw (same_test x y dx dl.0, same_mem x l dx dl.1) refl

  module _ (f f' : ℕ → ℕ) (stays : (x : ℕ) → D x → D (f x)) (carry : (x : ℕ) → D x → h (f x) ≡ f' (h x)) where
    pub carry_around : (s n x : ℕ) → D s → D x → map h (around f s n x) ≡ around f' (h s) n (h x)
    unfolding around
    carry_around s zero x ds dx = refl
    carry_around s (suc n) x ds dx = rw (← carry x dx, same_test (f x) s (stays x dx) ds) (by_cases (eqb (f x) s)
        (λ e. rw e refl)
        (λ e. rw e (ap (λ (l : List ℕ). h x ∷ l) (carry_around s n (f x) ds (stays x dx)))))

    pub carry_cycle : (x : ℕ) → D x → map h (cycle f x) ≡ cycle f' (h x)
    unfolding cycle
    carry_cycle x dx = carry_around x 4096 x dx dx

    module _ (g g' : ℕ → ℕ) (stays-g : (x : ℕ) → D x → D (g x)) (carry-g : (x : ℕ) → D x → h (g x) ≡ g' (h x)) where
      pub carry_reach : (n : ℕ) (seen todo : List ℕ) → Each D seen → Each D todo → map h (reach f g n seen todo) ≡ reach f' g' n (map h seen) (map h todo)
      unfolding reach
      carry_reach zero seen todo ds dt = refl
      carry_reach (suc n) seen [] ds dt = refl
      carry_reach (suc n) seen (x ∷ todo) ds dt = rw (same_mem x seen dt.0 ds, ← carry x dt.0, ← carry-g x dt.0) (by_cases (mem x seen)
          (λ e. rw e (carry_reach n seen todo ds dt.1))
          (λ e. rw e (carry_reach n (x ∷ seen) (f x ∷ g x ∷ todo) (dt.0, ds) (stays x dt.0, (stays-g x dt.0, dt.1)))))

      pub carry_volume : (x : ℕ) → D x → map h (volume f g x) ≡ volume f' g' (h x)
      unfolding volume
      carry_volume x dx = carry_reach (3 * 4096) [] (x ∷ []) (the_unit) (dx, the_unit)
        where
          the_unit : Unit {0}
          the_unit = record {}
