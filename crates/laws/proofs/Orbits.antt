-- Laws of cycles: what an injective function on a finite set reaches. Assumes nothing.
use mathlib.Core.Path.{◌≡◌, refl, sym, ◌∙◌, ap, subst}
use mathlib.Core.Logic.{◌⊎◌, inl, inr, ◌≢◌}
use mathlib.Core.Bool.{true, false, true≢false}
use mathlib.Core.List.{List, [], ◌∷◌}
use Prim.Native.Nat.{ℕ, zero, suc, ◌+◌, ◌-◌, ◌<◌, ◌≤◌}
use native.Mathlib.Omega.{arith}
use native.Mathlib.Nat.{zero-add, suc-add, not-suc-le-zero}
use lib.Dec.{ltb, eqb}
use lib.ListN.{length}
use borrow.Author.Tests.{eqb-true, eqb-false, ltb-true, ltb-false}
use Rattle.laws.proofs.Tests.{by_cases, or_cases}
use Rattle.laws.proofs.Members.{In, in_here, in_there, pigeonhole}
use Rattle.model.specs.Cells.{around}

abbrev pub iter : (ℕ → ℕ) → ℕ → ℕ → ℕ
iter f zero x = x
iter f (suc k) x = iter f k (f x)

pub iter_out : (f : ℕ → ℕ) (k x : ℕ) → iter f k (f x) ≡ f (iter f k x)
iter_out f zero x = refl
iter_out f (suc k) x = iter_out f k (f x)

pub iter_add : (f : ℕ → ℕ) (a b x : ℕ) → iter f (a + b) x ≡ iter f b (iter f a x)
iter_add f zero b x = rw zero-add
iter_add f (suc a) b x = rw suc-add (iter_add f a b (f x))

-- x, f x, .., k of them
abbrev pub path : (ℕ → ℕ) → ℕ → ℕ → List ℕ
path f zero x = []
path f (suc k) x = x ∷ path f k (f x)

pub path_length : (f : ℕ → ℕ) (k x : ℕ) → length (path f k x) ≡ k
path_length f zero x = refl
path_length f (suc k) x = ap suc (path_length f k (f x))

pub in_path : (f : ℕ → ℕ) (p x k : ℕ) → k < p → In (iter f k x) (path f p x)
in_path f zero x k h = absurd (not-suc-le-zero h)
in_path f (suc p) x zero h = in_here x (path f p (f x))
in_path f (suc p) x (suc k) h = in_there (iter f k (f x)) x (path f p (f x)) (in_path f p (f x) k (omega arith))

pub path_in : (f : ℕ → ℕ) (p x y : ℕ) → In y (path f p x) → (k : ℕ) × (k < p) × (y ≡ iter f k x)
path_in f zero x y h = absurd (true≢false (sym h))
path_in f (suc p) x y h = go (or_cases (eqb y x) _ h) (path_in f p (f x) y)
  where
    go : (eqb y x ≡ true) ⊎ In y (path f p (f x)) → (In y (path f p (f x)) → (k : ℕ) × (k < p) × (y ≡ iter f k (f x))) → (k : ℕ) × (k < suc p) × (y ≡ iter f k x)
    go (inl e) ih = (0, omega arith, eqb-true y x e)
    go (inr m) ih = let r = ih m in (suc r.0, omega (arith, r.1), r.2)

pub around_some : (f : ℕ → ℕ) (s n x : ℕ) → 0 < length (around f s (suc n) x)
unfolding around
around_some f s n x = omega arith

-- what `around` gives: the path up to the first return, or there is no return
pub around_cases : (f : ℕ → ℕ) (s n x : ℕ)
    → ((p : ℕ) × (0 < p) × (p ≤ n) × (around f s n x ≡ path f p x) × (iter f p x ≡ s) × ((k : ℕ) → 0 < k → k < p → iter f k x ≢ s))
    ⊎ ((k : ℕ) → k < n → iter f (suc k) x ≢ s)
unfolding around
around_cases f s zero x = inr (λ k h. absurd (not-suc-le-zero h))
around_cases f s (suc n) x = by_cases (eqb (f x) s)
    (λ e. inl (1, omega arith, omega arith, rw e, eqb-true (f x) s e, λ k a b. absurd (let z : ◌≡◌ {A = ℕ} 0 1 = omega arith in omega arith)))
    (λ e. go e (around_cases f s n (f x)))
  where
    later : eqb (f x) s ≡ false → (b : ℕ) → ((k : ℕ) → 0 < k → k < b → iter f k (f x) ≢ s) → (k : ℕ) → 0 < k → k < suc b → iter f k x ≢ s
    later e b h zero u v = absurd (not-suc-le-zero u)
    later e b h (suc zero) u v = eqb-false (f x) s e
    later e b h (suc (suc k)) u v = h (suc k) (omega arith) (omega arith)

    go : eqb (f x) s ≡ false
        → ((p : ℕ) × (0 < p) × (p ≤ n) × (around f s n (f x) ≡ path f p (f x)) × (iter f p (f x) ≡ s) × ((k : ℕ) → 0 < k → k < p → iter f k (f x) ≢ s))
        ⊎ ((k : ℕ) → k < n → iter f (suc k) (f x) ≢ s)
        → ((p : ℕ) × (0 < p) × (p ≤ suc n) × (around f s (suc n) x ≡ path f p x) × (iter f p x ≡ s) × ((k : ℕ) → 0 < k → k < p → iter f k x ≢ s))
        ⊎ ((k : ℕ) → k < suc n → iter f (suc k) x ≢ s)
    go e (inl r) = inl (suc r.0, omega arith, omega (arith, r.2), rw e (ap (λ (l : List ℕ). x ∷ l) r.3), r.4, later e r.0 r.5)
    go e (inr never) = inr (λ k h. later e (suc n) (λ j u v. from j u v) (suc k) (omega arith) (omega arith))
      where
        from : (j : ℕ) → 0 < j → j < suc n → iter f j (f x) ≢ s
        from zero u v = absurd (not-suc-le-zero u)
        from (suc j) u v = never j (omega arith)

-- A finite set on which f is injective. Then every dart's cycle closes.
module _ (f : ℕ → ℕ) (ds : List ℕ) (stays : (x : ℕ) → In x ds → In (f x) ds) (inj : (x y : ℕ) → In x ds → In y ds → f x ≡ f y → x ≡ y) where
  pub iter_stays : (k x : ℕ) → In x ds → In (iter f k x) ds
  iter_stays zero x h = h
  iter_stays (suc k) x h = iter_stays k (f x) (stays x h)

  pub iter_inj : (k x y : ℕ) → In x ds → In y ds → iter f k x ≡ iter f k y → x ≡ y
  iter_inj zero x y hx hy e = e
  iter_inj (suc k) x y hx hy e = inj x y hx hy (iter_inj k (f x) (f y) (stays x hx) (stays y hy) e)

  -- what does not return in n steps has n + 1 different values
  no_return : (n x : ℕ) → In x ds → ((k : ℕ) → k < n → iter f (suc k) x ≢ x) → suc n ≤ length ds
  no_return n x h never = pigeonhole (suc n) (λ k. iter f k x) ds (λ k u. iter_stays k x h) apart
    where
      cancel : (a c : ℕ) → c < n → iter f a x ≢ iter f (suc c + a) x
      cancel a c u e = never c u (sym (iter_inj a x (iter f (suc c) x) h (iter_stays (suc c) x h) (e ∙ iter_add f (suc c) a x)))

      apart : (a b : ℕ) → a < b → b < suc n → iter f a x ≢ iter f b x
      apart a b u v e = let split : b ≡ suc (b - suc a) + a = omega arith in cancel a (b - suc a) (omega arith) (e ∙ ap (λ (k : ℕ). iter f k x) split)

  -- the cycle of x is the path up to its first return
  pub around_path : (n x : ℕ) → length ds ≤ n → In x ds
      → (p : ℕ) × (0 < p) × (p ≤ n) × (around f x n x ≡ path f p x) × (iter f p x ≡ x) × ((k : ℕ) → 0 < k → k < p → iter f k x ≢ x)
  around_path n x big h = go (around_cases f x n x)
    where
      go : ((p : ℕ) × (0 < p) × (p ≤ n) × (around f x n x ≡ path f p x) × (iter f p x ≡ x) × ((k : ℕ) → 0 < k → k < p → iter f k x ≢ x))
          ⊎ ((k : ℕ) → k < n → iter f (suc k) x ≢ x)
          → (p : ℕ) × (0 < p) × (p ≤ n) × (around f x n x ≡ path f p x) × (iter f p x ≡ x) × ((k : ℕ) → 0 < k → k < p → iter f k x ≢ x)
      go (inl r) = r
      go (inr never) = absurd (let many = no_return n x h never in omega arith)

  abbrev pub Cyc : ℕ → ℕ → Type 0
  Cyc n x = (p : ℕ) × (0 < p) × (p ≤ n) × (around f x n x ≡ path f p x) × (iter f p x ≡ x) × ((k : ℕ) → 0 < k → k < p → iter f k x ≢ x)

  -- (c) membership in a cycle is an equivalence
  path_closed : (p x y : ℕ) → 0 < p → iter f p x ≡ x → In y (path f p x) → In (f y) (path f p x)
  path_closed p x y pos ret h = go (path_in f p x y h)
    where
      go : (k : ℕ) × (k < p) × (y ≡ iter f k x) → In (f y) (path f p x)
      go r = by_cases (ltb (suc r.0) p)
          (λ e. rw (r.2, ← iter_out f r.0 x) (in_path f p x (suc r.0) (ltb-true (suc r.0) p e)))
          (λ e. let last : suc r.0 ≡ p = omega (arith, ltb-false (suc r.0) p e, r.1) in
          rw (r.2, ← iter_out f r.0 x, ap (λ (m : ℕ). iter f m x) last, ret) (in_path f p x 0 pos))

  pub cycle_closed : (n x y : ℕ) → length ds ≤ n → In x ds → In y (around f x n x) → In (f y) (around f x n x)
  cycle_closed n x y big h m = go (around_path n x big h) m
    where
      go : Cyc n x → In y (around f x n x) → In (f y) (around f x n x)
      go r m = rw r.3 (path_closed r.0 x y r.1 r.4 (rw r.3 at m))

  pub in_cycle : (n x k : ℕ) → length ds ≤ n → In x ds → In (iter f k x) (around f x n x)
  in_cycle n x k big h = go (around_path n x big h)
    where
      go : Cyc n x → In (iter f k x) (around f x n x)
      go r = rw r.3 (along k)
        where
          along : (k : ℕ) → In (iter f k x) (path f r.0 x)
          along zero = in_path f r.0 x 0 r.1
          along (suc k) = rw (iter_out f k x) (path_closed r.0 x (iter f k x) r.1 r.4 (along k))

  way_back : (p k x y : ℕ) → k < p → iter f p x ≡ x → y ≡ iter f k x → x ≡ iter f (p - k) y
  way_back p k x y less ret e = let all-round : k + (p - k) ≡ p = omega arith in rw (e, ← iter_add f k (p - k) x, all-round, ret)

  pub cycle_in : (n x y : ℕ) → length ds ≤ n → In x ds → In y (around f x n x) → (k : ℕ) × (y ≡ iter f k x) × ((j : ℕ) × (x ≡ iter f j y))
  cycle_in n x y big h m = go (around_path n x big h) m
    where
      go : Cyc n x → In y (around f x n x) → (k : ℕ) × (y ≡ iter f k x) × ((j : ℕ) × (x ≡ iter f j y))
      go r m = let q = path_in f r.0 x y (rw r.3 at m) in
          (q.0, q.2, (r.0 - q.0, way_back r.0 q.0 x y q.1 r.4 q.2))

  pub cycle_sym : (n x y : ℕ) → length ds ≤ n → In x ds → In y ds → In y (around f x n x) → In x (around f y n y)
  cycle_sym n x y big h k m = go (cycle_in n x y big h m)
    where
      go : (k : ℕ) × (y ≡ iter f k x) × ((j : ℕ) × (x ≡ iter f j y)) → In x (around f y n y)
      go q = subst (λ (z : ℕ). In z (around f y n y)) (sym q.2.1) (in_cycle n y q.2.0 big k)

  -- steps beyond the size of the set change nothing: the cycle has closed
  pub around_enough : (n m x : ℕ) → length ds ≤ n → length ds ≤ m → In x ds → around f x n x ≡ around f x m x
  around_enough n m x big large h = go (around_path n x big h) (around_path m x large h)
    where
      go : Cyc n x → Cyc m x → around f x n x ≡ around f x m x
      go p q = p.3 ∙ ap (λ (k : ℕ). path f k x) same ∙ sym q.3
        where
          same : p.0 ≡ q.0
          same = by_cases (ltb p.0 q.0)
              (λ e. absurd (q.5 p.0 p.1 (ltb-true p.0 q.0 e) p.4))
              (λ e. by_cases (ltb q.0 p.0)
              (λ t. absurd (p.5 q.0 q.1 (ltb-true q.0 p.0 t) q.4))
              (λ t. omega (arith, ltb-false p.0 q.0 e, ltb-false q.0 p.0 t)))
