-- Darts by place in `Ranged` memory: the dart of the serial at a place, and that a place past the last dart holds none. Assumes nothing.
use mathlib.Core.Path.{◌≡◌, refl, sym, ap, ◌∙◌}
use mathlib.Core.Bool.{true}
use mathlib.Core.List.{List}
use mathlib.Core.Logic.{⊎_elim}
use Prim.Native.Nat.{ℕ, zero, suc, ◌+◌, ◌*◌, ◌≤◌, ◌<◌}
use native.Mathlib.Omega.{arith}
use lib.Dec.{eqb}
use borrow.Author.Tests.{eq-eqb, ne_eqb, eqb-true, eqb-false}
use Rattle.model.specs.Lists.{tab}
use Rattle.model.specs.Values.{Dart, no_dart}
use Rattle.model.specs.Cells.{dart_at, held}
use Rattle.model.specs.Image.{column, dart_in}
use Rattle.laws.proofs.Tests.{by_cases, lt_or_ge}
use Rattle.laws.proofs.Tables.{find_none}
use Rattle.laws.proofs.Members.{In}
use Rattle.laws.proofs.Tables.{length_tab, tab_any, any_tab, one_place, dart_place, place_held}
use Rattle.laws.proofs.Orbits.{iter, iter_out, iter_stays, around_path}
use Rattle.columns.specs.Columns.{count, Ranged, OneToOne}
use Rattle.columns.proofs.Images.{in_order}

-- the darts that memory stands for
abbrev pub darts : List ℕ → List Dart
darts m = tab (dart_in m) (count m)

module _ (m : List ℕ) (w : Ranged m) where
  pub dart_is : (x : ℕ) → x < count m → dart_at (darts m) (column m 0 x) ≡ dart_in m x
  dart_is x h = dart_place (dart_in m) (count m) x (in_order m w) h

  pub one_serial : {x y : ℕ} → x < count m → y < count m → column m 0 x ≡ column m 0 y → x ≡ y
  one_serial hx hy e = one_place (in_order m w) hx hy e

  pub eq_place : (x y : ℕ) → x < count m → y < count m → eqb (column m 0 x) (column m 0 y) ≡ eqb x y
  eq_place x y hx hy = by_cases (eqb x y)
      (λ e. rw e (eq-eqb _ _ (ap (column m 0) (eqb-true x y e))))
      (λ e. rw e (ne_eqb _ _ (λ q. eqb-false x y e (one_serial hx hy q))))

  pub serial_positive : (p : ℕ) → p < count m → 0 < column m 0 p
  serial_positive p h = omega (arith, w.above p h)

  -- past the last dart
  pub no_serial : (x : ℕ) → count m ≤ x → column m 0 x ≡ 0
  no_serial x h = w.rest (8 + x * 8 + 0) (omega arith)

  pub nothing_at : (x : ℕ) → count m ≤ x → dart_at (darts m) (column m 0 x) ≡ no_dart
  unfolding dart_at
  nothing_at x h = rw (no_serial x h, find_none (λ d. d.serial) (dart_in m) (count m) 0 (λ p l e. omega (arith, serial_positive p l, e))) refl

  pub held_lt : (x : ℕ) → held (darts m) (column m 0 x) ≡ true → x < count m
  held_lt x h = ⊎_elim (λ l. l) (λ l. let q = place_held (dart_in m) (count m) (column m 0 x) h in
      absurd (omega (arith, no_serial x l, serial_positive q.0 q.1, q.2))) (lt_or_ge x (count m))

-- f one to one below n takes each place below n
module _ (n : ℕ) (f : ℕ → ℕ) (within : (i : ℕ) → i < n → f i < n) (apart : OneToOne f n) where
  place_in : (x : ℕ) → x < n → In x (tab (λ k. k) n)
  place_in x h = tab_any (eqb x) (λ k. k) n x h (eq-eqb x x refl)

  in_place : (x : ℕ) → In x (tab (λ k. k) n) → x < n
  in_place x h = let q = any_tab (eqb x) (λ k. k) n h in omega (arith, q.1, eqb-true x q.0 q.2)

  stays : (x : ℕ) → In x (tab (λ k. k) n) → In (f x) (tab (λ k. k) n)
  stays x h = place_in (f x) (within x (in_place x h))

  injective : (x y : ℕ) → In x (tab (λ k. k) n) → In y (tab (λ k. k) n) → f x ≡ f y → x ≡ y
  injective x y hx hy e = apart x y (in_place x hx) (in_place y hy) e

  pub onto : (p : ℕ) → p < n → (q : ℕ) × (q < n) × (f q ≡ p)
  onto p h =
      let c = around_path f (tab (λ k. k) n) stays injective n p (omega (arith, length_tab (λ (k : ℕ). k) n)) (place_in p h) in
      go c.0 c.1 c.4
    where
      go : (k : ℕ) → 0 < k → iter f k p ≡ p → (q : ℕ) × (q < n) × (f q ≡ p)
      go zero l e = absurd (omega arith)
      go (suc k) l e = (iter f k p, in_place (iter f k p) (iter_stays f (tab (λ k. k) n) stays injective k p (place_in p h)), sym (iter_out f k p) ∙ e)
